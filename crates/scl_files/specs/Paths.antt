-- Paths by their components. A path is its bytes.
use Rattle.std.specs.Prelude.{ℕ, ◌==◌, ◌&&◌, ◌||◌, not, Bool, true, false, List, [], ◌∷◌, ◌++◌, length, take, drop, map, Option, None, Some, codes, nat_eq, if◌then◌else◌, is_some}
use Rattle.std.specs.List.{list_all, slice_split, starts_with, ends_with, before_first, before_last, after_last, last_or}
use Rattle.std.specs.Option.{option_map, option_and_then}
use Rattle.std.specs.Str.{bytes_eq}
use Rattle.std.specs.Cmp.Lexicographic.{pointwise}
use Rattle.scl_files.specs.Characters.{slash, dot}

abbrev pub is_slash : ℕ → Bool
is_slash byte = byte == slash

abbrev pub is_dot : ℕ → Bool
is_dot byte = byte == dot

abbrev pub begins_with_slash : List ℕ → Bool
begins_with_slash path = starts_with nat_eq path (codes "/")

abbrev pub ends_with_slash : List ℕ → Bool
ends_with_slash path = ends_with nat_eq path (codes "/")

-- a part between slashes that is a name: neither empty nor `.`
abbrev pub is_name : List ℕ → Bool
is_name [] = false
is_name (byte ∷ []) = not (is_dot byte)
is_name (byte ∷ (other ∷ bytes)) = true

-- how a path starts: with the root, with a first part `.`, or with neither
abbrev pub start : List ℕ → List ℕ
start path = if begins_with_slash path then codes "/" else (if bytes_eq (before_first is_slash path) (codes ".") then codes "." else [])

-- a name in a path, and the bytes before it
pub record Place : Type 0 where
  pub before : List ℕ
  pub name : List ℕ

abbrev pub placed : List ℕ → List ℕ → Place
placed before name = record { before = before; name = name }

-- the path up to the end of a name
abbrev pub through : Place → List ℕ
through place = place.before ++ place.name

-- the names among the parts of a path that follow these bytes
abbrev pub places_after : List ℕ → List (List ℕ) → List Place
places_after before [] = []
places_after before (part ∷ parts) = if is_name part then placed before part ∷ places_after (before ++ part ++ codes "/") parts else places_after (before ++ part ++ codes "/") parts

-- the names of a path with their places: the parts between slashes that are neither empty nor `.`
unfoldable pub places : List ℕ → List Place
places path = places_after [] (slice_split is_slash path)

-- those from a position on
unfoldable pub places_from : List ℕ → ℕ → List Place
places_from path at = places_after (take at path) (slice_split is_slash (drop at path))

abbrev pub names_of : List Place → List (List ℕ)
names_of found = map (λ place. place.name) found

-- the components of a path
pub record Components : Type 0 where
  pub start : List ℕ
  pub names : List (List ℕ)

abbrev pub components : List ℕ → Components
components path = record { start = start path; names = names_of (places path) }

-- whether the components are the same
abbrev pub same_components : Components → Components → Bool
same_components a b = bytes_eq a.start b.start && pointwise bytes_eq a.names b.names

abbrev pub same_path : List ℕ → List ℕ → Bool
same_path a b = same_components (components a) (components b)

abbrev pub unless_parent : Option Place → Option Place
unless_parent None = None
unless_parent (Some place) = if bytes_eq place.name (codes "..") then None else Some place

-- the place of the file name: the last component, unless that is `.`, `..`, the root or absent
abbrev pub file_place : List ℕ → Option Place
file_place path = unless_parent (last_or None (places path))

abbrev pub file_name : List ℕ → Option (List ℕ)
file_name path = option_map (λ place. place.name) (file_place path)

-- what follows the last dot of a name; none if there is no dot or it is the first byte
abbrev pub extension_of_name : List ℕ → Option (List ℕ)
extension_of_name name = if length (before_last is_dot name) == 0 then None else Some (after_last is_dot name)

-- a name without its extension and the dot before that
abbrev pub stem_of_name : List ℕ → List ℕ
stem_of_name name = if length (before_last is_dot name) == 0 then name else before_last is_dot name

abbrev pub extension : List ℕ → Option (List ℕ)
extension path = option_and_then extension_of_name (file_name path)

-- the second path, in the directory of the first
abbrev pub join : List ℕ → List ℕ → List ℕ
join a b = if begins_with_slash b || length a == 0 then b else (if ends_with_slash a then a ++ b else a ++ codes "/" ++ b)

-- the path up to the end of its file name's stem, then a dot and the extension
abbrev pub extended_at : List ℕ → Option Place → List ℕ → List ℕ
extended_at path None extension = path
extended_at path (Some place) extension = place.before ++ stem_of_name place.name ++ codes "." ++ extension

abbrev pub with_extension : List ℕ → List ℕ → List ℕ
with_extension path extension = extended_at path (file_place path) extension

-- the path up to the end of the component before the last name
abbrev pub parent_from : List ℕ → List ℕ → List Place → List ℕ
parent_from parent last [] = parent
parent_from parent last (place ∷ rest) = parent_from last (through place) rest

abbrev pub parent : List ℕ → List ℕ
parent path = parent_from (start path) (start path) (places path)

-- the path without its file name, joined with the new one
abbrev pub with_file_name : List ℕ → List ℕ → List ℕ
with_file_name path name = join (if is_some (file_place path) then parent path else path) name

-- no byte is a slash
abbrev pub is_one_part : List ℕ → Bool
is_one_part part = list_all (λ byte. not (is_slash byte)) part

-- a plain name of a file: one part, neither empty nor `.` nor `..`
abbrev pub is_file_name : List ℕ → Bool
is_file_name name = is_one_part name && (is_name name && not (bytes_eq name (codes "..")))

-- a plain extension: bytes, none of which is a slash or a dot
abbrev pub is_plain_extension : List ℕ → Bool
is_plain_extension extension = not (length extension == 0) && (is_one_part extension && list_all (λ byte. not (is_dot byte)) extension)

-- a file name with this extension in place of its own
abbrev pub extended_name : List ℕ → List ℕ → List ℕ
extended_name name extension = stem_of_name name ++ codes "." ++ extension
