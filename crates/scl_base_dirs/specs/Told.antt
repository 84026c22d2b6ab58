-- Paths told by their base, as bytes.
use Rattle.std.specs.Prelude.{ℕ, ◌==◌, List, [], ◌∷◌, ◌++◌, length, take, drop, map, Option, None, Some, codes, if◌then◌else◌}
use Rattle.std.specs.List.{flat_map, join_with_byte}
use Rattle.std.specs.Fmt.{decimal}
use Rattle.scl_base_dirs.specs.declared.spelling.Spelling.{Spelling}
use Rattle.scl_base_dirs.specs.declared.spelling.Spelling.TheVariants as spelled
use Rattle.scl_base_dirs.specs.Bases.{Place, base_of}
use Rattle.scl_base_dirs.specs.Cuts.{parts}

-- A byte of what is told unchanged. A NUL is doubled, since a single one begins a base: no word of a process has one.
abbrev pub told_byte : ℕ → List ℕ
told_byte byte = if byte == 0 then 0 ∷ 0 ∷ [] else byte ∷ []

abbrev pub told_text : List ℕ → List ℕ
told_text text = flat_map told_byte text

-- the name of the base with a number
abbrev pub base_name : ℕ → List ℕ
base_name number = codes "<base" ++ decimal number

-- the base with a number
abbrev pub told_base : ℕ → List ℕ
told_base number = 0 ∷ (base_name number ++ codes ">")

-- a path, by its base
abbrev pub told_below : Option Place → List ℕ → List ℕ
told_below None path = told_text path
told_below (Some place) path = told_base place.number ++ told_text (drop (length place.dir) path)

abbrev pub told_path : Spelling → List (List ℕ) → List ℕ → List ℕ
told_path spelling dirs path = told_below (base_of spelling dirs path) path

-- a list of paths with this byte between them
abbrev pub told_list : List (List ℕ) → ℕ → List ℕ → List ℕ
told_list dirs separator value = join_with_byte separator (map (told_path spelled.Word dirs) (parts separator value))

-- a path, or a list of paths with this byte between them
abbrev pub told_value : List (List ℕ) → Option ℕ → List ℕ → List ℕ
told_value dirs None value = told_path spelled.Word dirs value
told_value dirs (Some separator) value = told_list dirs separator value

-- a word whose value begins at a position
abbrev pub told_word : List (List ℕ) → ℕ → Option ℕ → List ℕ → List ℕ
told_word dirs at separator word = told_text (take at word) ++ told_value dirs separator (drop at word)
