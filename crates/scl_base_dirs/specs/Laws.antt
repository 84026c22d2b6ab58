-- What holds of paths, words and texts that are told by their bases.
use Rattle.std.specs.Prelude.{◌≡◌, ◌≢◌, ℕ, ◌^◌, ◌<◌, ◌≤◌, not, true, List, [], ◌∷◌, ◌++◌, length, Option, None, Some, is_some, slice_index_or}
use Rattle.std.specs.List.{list_all}
use Rattle.scl_values.specs.Each.{Each}
use Rattle.scl_base_dirs.specs.declared.spelling.Spelling.{Spelling}
use Rattle.scl_base_dirs.specs.Bases.{Place, placed, fits, ends_component, base_of}
use Rattle.scl_base_dirs.specs.Cuts.{has_none, parts}
use Rattle.scl_base_dirs.specs.Told.{told_path, told_word}
use Rattle.scl_base_dirs.specs.Unmapped.{unmapped}
use Rattle.scl_base_dirs.specs.Markers.{marked_name}
use Rattle.scl_base_dirs.specs.Runs.{line_feed, mapped_text}

-- the base of a path is one of the directories, by its number; it fits, and no longer one does
pub record IsLongestFit (spelling : Spelling) (dirs : List (List ℕ)) (path : List ℕ) (place : Place) : Type 0 where
  pub numbered : slice_index_or dirs place.number [] ≡ place.dir
  pub within : place.number < length dirs
  pub fitting : fits spelling place.dir path ≡ true
  pub longest : Each (λ dir. fits spelling dir path ≡ true → length dir ≤ length place.dir) dirs

abbrev pub BasesAreLongestFits : Type 0
BasesAreLongestFits =
    (spelling : Spelling) (dirs : List (List ℕ)) (path : List ℕ) (place : Place) → base_of spelling dirs path ≡ Some place → IsLongestFit spelling dirs path place

-- whether a byte may stand between the paths of a list
abbrev pub MaySeparate : Option ℕ → Type 0
MaySeparate None = Unit {0}
MaySeparate (Some byte) = byte ≢ 0

abbrev pub WordsAreReadBack : Type 0
WordsAreReadBack =
    (dirs : List (List ℕ)) (at : ℕ) (separator : Option ℕ) (word : List ℕ) → length dirs < 2 ^ 64 → MaySeparate separator → unmapped dirs (told_word dirs at separator word) ≡ word

abbrev pub PathsAreReadBack : Type 0
PathsAreReadBack = (spelling : Spelling) (dirs : List (List ℕ)) (path : List ℕ) → length dirs < 2 ^ 64 → unmapped dirs (told_path spelling dirs path) ≡ path

abbrev pub PathsWithoutBaseStand : Type 0
PathsWithoutBaseStand =
    (spelling : Spelling) (dirs : List (List ℕ)) (path : List ℕ) → base_of spelling dirs path ≡ None → has_none 0 path ≡ true → told_path spelling dirs path ≡ path

-- two paths with the same rest below bases with the same number
abbrev pub OnlyTheBaseDiffers : Type 0
OnlyTheBaseDiffers =
    (spelling : Spelling) (dirs others : List (List ℕ)) (number : ℕ) (dir other rest : List ℕ)
    → base_of spelling dirs (dir ++ rest) ≡ Some (placed number dir) → base_of spelling others (other ++ rest) ≡ Some (placed number other)
    → told_path spelling dirs (dir ++ rest) ≡ told_path spelling others (other ++ rest)

-- two paths with the same rest, each below its only base
abbrev pub OneBaseIsLikeAnother : Type 0
OneBaseIsLikeAnother =
    (spelling : Spelling) (dir other rest : List ℕ) → dir ≢ [] → other ≢ [] → ends_component spelling rest ≡ true
    → told_path spelling (dir ∷ []) (dir ++ rest) ≡ told_path spelling (other ∷ []) (other ++ rest)

abbrev pub TextsWithoutMarkersStand : Type 0
TextsWithoutMarkersStand =
    (dirs : List (List ℕ)) (text : List ℕ) → list_all (λ line. not (is_some (marked_name line))) (parts line_feed text) ≡ true → mapped_text dirs text ≡ text
