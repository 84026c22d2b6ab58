-- Patterns of the names that an effect states: a text in which names in braces stand for parts of a command line.
use Rattle.std.specs.Prelude.{ℕ, nat_eq, ◌==◌, Bool, true, false, ◌||◌, List, [], ◌∷◌, ◌++◌, length, take, ◌+◌, ◌-◌, codes, Option, None, Some, unwrap_or, if◌then◌else◌}
use Rattle.std.specs.List.{ends_with, slice_split}
use Rattle.std.specs.Str.{bytes_eq}
use Rattle.scl_catalogue.specs.Found.{LineSeen, holds}
use Rattle.scl_files.specs.Paths.{extension, file_name}

abbrev pub stem_by : List ℕ → Option (List ℕ) → List ℕ
stem_by path None = path
stem_by path (Some extension) = take (length path - (length extension + 1)) path

-- a path without its extension and the dot before that
abbrev pub stem : List ℕ → List ℕ
stem path = stem_by path (extension path)

-- an extension and the dot before it
abbrev pub dotted : Option (List ℕ) → List ℕ
dotted None = []
dotted (Some extension) = 46 ∷ extension

-- the object's path with the input's extension in place of its own
abbrev pub dump : LineSeen → List ℕ
dump l = stem l.object ++ dotted l.extension

-- what a name stands for, of an option that has this value
abbrev pub meant : LineSeen → (value : List ℕ) → (name : List ℕ) → List ℕ
meant l value name =
    if bytes_eq name (codes "value") then value
    else (if bytes_eq name (codes "object") then l.object
    else (if bytes_eq name (codes "object-stem") then stem l.object
    else (if bytes_eq name (codes "input-stem") then stem (unwrap_or (file_name l.input) [])
    else (if bytes_eq name (codes "dump") then dump l
    else name))))

abbrev pub is_brace : ℕ → Bool
is_brace byte = byte == 123 || byte == 125

-- parts as they stand, but each second one is a name
abbrev pub parts_meant : LineSeen → (value : List ℕ) → (is_name : Bool) → List (List ℕ) → List ℕ
parts_meant l value is_name [] = []
parts_meant l value true (part ∷ parts) = meant l value part ++ parts_meant l value false parts
parts_meant l value false (part ∷ parts) = part ++ parts_meant l value true parts

-- a pattern with what its names stand for
unfoldable pub filled : LineSeen → (value : List ℕ) → (file : List ℕ) → List ℕ
filled l value file = parts_meant l value false (slice_split is_brace file)

-- the pattern has the value of an option
abbrev pub has_value : List ℕ → Bool
has_value file = holds file (codes "{value}")

-- the pattern is of all names that begin so
abbrev pub is_like : List ℕ → Bool
is_like file = ends_with nat_eq file (codes "*")

abbrev pub without_star : List ℕ → List ℕ
without_star file = if is_like file then take (length file - 1) file else file
