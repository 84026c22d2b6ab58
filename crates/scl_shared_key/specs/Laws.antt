-- What holds of rows that are told by base directories, and of words that make an object name something.
use Rattle.std.specs.Prelude.{◌≡◌, ℕ, ◌^◌, ◌<◌, true, List, ◌∷◌, ◌++◌, length, map, None, Some}
use Rattle.scl_base_dirs.specs.declared.spelling.Spelling.TheVariants as spelled
use Rattle.scl_base_dirs.specs.Bases.{base_of, placed}
use Rattle.scl_base_dirs.specs.Cuts.{has_none}
use Rattle.scl_base_dirs.specs.Unmapped.{unmapped}
use Rattle.scl_catalogue.specs.Lookup.{Lexicon, naming_of}
use Rattle.scl_shared_key.specs.Fields.{told_field, told_rows, value_at}
use Rattle.scl_shared_key.specs.Fronts.{NamesHaveNoSlash}

-- rows with the directories put back
abbrev pub unmapped_rows : List (List ℕ) → List (List (List ℕ)) → List (List (List ℕ))
unmapped_rows dirs rows = map (map (unmapped dirs)) rows

-- Rows are read back. So no two keys are told alike.
abbrev pub RowsAreReadBack : Type 0
RowsAreReadBack = (dirs : List (List ℕ)) (rows : List (List (List ℕ))) → length dirs < 2 ^ 64 → unmapped_rows dirs (told_rows dirs rows) ≡ rows

-- no flag stands before a path in the field, and no `=` in it
pub record IsPath (field : List ℕ) : Type 0 where
  pub has_no_flag : value_at field ≡ 0
  pub is_one : has_none 61 field ≡ true

-- a path without a base stands
abbrev pub PathsWithoutBaseStand : Type 0
PathsWithoutBaseStand = (dirs : List (List ℕ)) (field : List ℕ) → IsPath field → base_of spelled.Word dirs field ≡ None → has_none 0 field ≡ true → told_field dirs field ≡ field

-- two paths with the same rest, each below the base with one number of its checkout, are told alike
abbrev pub OnlyTheBaseDiffers : Type 0
OnlyTheBaseDiffers =
    (dirs others : List (List ℕ)) (number : ℕ) (dir other rest : List ℕ)
    → IsPath (dir ++ rest) → IsPath (other ++ rest)
    → base_of spelled.Word dirs (dir ++ rest) ≡ Some (placed number dir) → base_of spelled.Word others (other ++ rest) ≡ Some (placed number other)
    → told_field dirs (dir ++ rest) ≡ told_field others (other ++ rest)

-- What a word makes the object name, what stands before its first `/` tells.
abbrev pub FrontsTellNamings : Type 0
FrontsTellNamings =
    (l : Lexicon) (front one other : List ℕ) → NamesHaveNoSlash l → naming_of l (front ++ 0x2f ∷ one) ≡ naming_of l (front ++ 0x2f ∷ other)
