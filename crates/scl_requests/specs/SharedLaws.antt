-- Keys of two checkouts that differ in their base directories alone.
use Rattle.std.specs.Prelude.{◌≡◌, ◌≢◌, ℕ, true, false, List, [], ◌∷◌, ◌++◌, length, map, Option, None, Some, slice_index_or}
use Rattle.std.specs.List.{join_with_byte}
use Rattle.scl_values.specs.Each.{Each}
use Rattle.scl_base_dirs.specs.declared.spelling.Spelling.TheVariants as spelled
use Rattle.scl_base_dirs.specs.Bases.{Place, base_of, ends_component, fits, placed}
use Rattle.scl_base_dirs.specs.Cuts.{has_none}
use Rattle.scl_catalogue.specs.Lookup.{Lexicon, naming_of}
use Rattle.scl_key.specs.Parts.{fields}
use Rattle.scl_shared_key.specs.Fields.{told_rows, value_at}
use Rattle.scl_shared_key.specs.Fronts.{NamesHaveNoSlash}
use Rattle.scl_shared_key.specs.Maps.{debug_info_is_free, macros_are_free, maps_among}
use Rattle.scl_shared_key.specs.Objects.{Object}
use Rattle.scl_shared_key.specs.Usuals.{are_usual}
use Rattle.scl_shared_key.specs.Verdicts.{verdict}
use Rattle.scl_delivered.specs.Delivered.{Delivered, names_none, told_by}

-- a path of any checkout: what follows the base with a number, or a path that is below no base
pub data Path : Type 0 where
  below : ℕ → List ℕ → Path
  beside : List ℕ → Path

-- a field of any checkout: what stands before its paths, the first path, and those behind each `=`
pub record Field : Type 0 where
  pub front : List ℕ
  pub first : Path
  pub more : List Path

abbrev pub paths_of : Field → List Path
paths_of field = field.first ∷ field.more

-- the base directory with a number
abbrev pub numbered_dir : List (List ℕ) → ℕ → List ℕ
numbered_dir dirs number = slice_index_or dirs number []

-- a path as it is in the checkout with these base directories
abbrev pub path_at : List (List ℕ) → Path → List ℕ
path_at dirs (below number rest) = numbered_dir dirs number ++ rest
path_at dirs (beside path) = path

abbrev pub field_at : List (List ℕ) → Field → List ℕ
field_at dirs field = field.front ++ join_with_byte 61 (map (path_at dirs) (paths_of field))

abbrev pub rows_at : List (List ℕ) → List (List Field) → List (List (List ℕ))
rows_at dirs rows = map (map (field_at dirs)) rows

-- the base that a path of any checkout has there
abbrev pub place_at : List (List ℕ) → Path → Option Place
place_at dirs (below number rest) = Some (placed number (numbered_dir dirs number))
place_at dirs (beside path) = None

-- in this checkout the path has that base and no other, and no `=`
pub record IsPathAt (dirs : List (List ℕ)) (path : Path) : Type 0 where
  pub by_base : base_of spelled.Word dirs (path_at dirs path) ≡ place_at dirs path
  pub is_one : has_none 61 (path_at dirs path) ≡ true

-- in this checkout the paths of the field begin where its front ends
pub record IsFieldAt (dirs : List (List ℕ)) (field : Field) : Type 0 where
  pub begin : value_at (field_at dirs field) ≡ length field.front
  pub paths : Each (IsPathAt dirs) (paths_of field)

abbrev pub AreRowsAt : List (List ℕ) → List (List Field) → Type 0
AreRowsAt dirs rows = Each (Each (IsFieldAt dirs)) rows

-- rows that differ in the bases alone are told alike
abbrev pub RowsAreToldAlike : Type 0
RowsAreToldAlike =
    (dirs others : List (List ℕ)) (rows : List (List Field)) → AreRowsAt dirs rows → AreRowsAt others rows → told_rows dirs (rows_at dirs rows) ≡ told_rows others (rows_at others rows)

-- ---- keys

-- What is said of the objects of two checkouts is the same, and they name no directory.
pub record SayTheSame (dirs others : List (List ℕ)) (o o' : Object) : Type 0 where
  pub verdicts : verdict dirs o ≡ verdict others o'
  pub name_none : names_none (verdict dirs o).in_object ≡ true

-- In this checkout the rows of a key are these, and the macros at its end are.
pub record HasRowsAt (dirs : List (List ℕ)) (rows : List (List Field)) (macros : List Field) (d : Delivered) : Type 0 where
  pub parts : map fields d.parts ≡ rows_at dirs rows
  pub shown : d.shown ≡ map (field_at dirs) macros
  pub are_rows : AreRowsAt dirs rows
  pub are_macros : Each (IsFieldAt dirs) macros

-- keys that differ in the bases alone are told as one key
abbrev pub OnlyTheBasesDiffer : Type 0
OnlyTheBasesDiffer =
    (dirs others : List (List ℕ)) (rows : List (List Field)) (macros : List Field) (o o' : Object) (d d' : Delivered)
    → HasRowsAt dirs rows macros d → HasRowsAt others rows macros d' → SayTheSame dirs others o o'
    → told_by dirs (verdict dirs o) d ≡ told_by others (verdict others o') d'

-- ---- when a path is one of a checkout, and when objects say the same

-- with one base: behind it a component ends, and a path that is below none does not fit it
abbrev pub IsPathOf : List ℕ → Path → Type 0
IsPathOf dir (below number rest) = (number ≡ 0) × (ends_component spelled.Word rest ≡ true)
IsPathOf dir (beside path) = fits spelled.Word dir path ≡ false

-- of one base no more need be known
abbrev pub OneBaseSuffices : Type 0
OneBaseSuffices =
    (dir : List ℕ) (path : Path) → dir ≢ [] → IsPathOf dir path → base_of spelled.Word (dir ∷ []) (path_at (dir ∷ []) path) ≡ place_at (dir ∷ []) path

-- Where the value of a word begins, what stands before its first `/` tells; and what it makes the object name, if no name in the
-- entries that say so has a `/`.
abbrev pub FrontsTell : Type 0
FrontsTell =
    (front one other : List ℕ)
    → (value_at (front ++ 0x2f ∷ one) ≡ value_at (front ++ 0x2f ∷ other))
    × ((l : Lexicon) → NamesHaveNoSlash l → naming_of l (front ++ 0x2f ∷ one) ≡ naming_of l (front ++ 0x2f ∷ other))

-- what makes verdicts equal: how an object is made, what each word makes it name, and what the prefix maps leave
pub record AreMadeAlike (dirs others : List (List ℕ)) (o o' : Object) : Type 0 where
  pub usual : are_usual dirs ≡ are_usual others
  pub by_gcc : o.is_by_gcc ≡ o'.is_by_gcc
  pub of_c : o.is_of_c ≡ o'.is_of_c
  pub of_shown_text : o.is_of_shown_text ≡ o'.is_of_shown_text
  pub alone : o.is_alone ≡ o'.is_alone
  pub namings : map (naming_of o.lexicon) o.words ≡ map (naming_of o'.lexicon) o'.words
  pub debug_info : debug_info_is_free dirs (maps_among o.lexicon o.words) ≡ debug_info_is_free others (maps_among o'.lexicon o'.words)
  pub macros : macros_are_free dirs (maps_among o.lexicon o.words) ≡ macros_are_free others (maps_among o'.lexicon o'.words)

abbrev pub ObjectsMadeAlikeSayTheSame : Type 0
ObjectsMadeAlikeSayTheSame =
    (dirs others : List (List ℕ)) (o o' : Object) → AreMadeAlike dirs others o o' → names_none (verdict dirs o).in_object ≡ true → SayTheSame dirs others o o'
