-- The rows of files, one by one.
use Rattle.std.proofs.Common.{◌≡◌, ℕ, List, [], ◌∷◌, ◌++◌, map, Option, None, Some, refl, ap, ◌∙◌}
use Rattle.std.specs.Option.{option_map, option_zip}
use Rattle.scl_lookup.specs.Keys.{Row, all_there}
use Rattle.scl_lookup.specs.Questions.{Machine}
use Rattle.scl_questions.specs.Views.{field_of, row_of}
use Rattle.scl_questions.specs.declared.row.Field as declared_field
use Rattle.scl_rounds.specs.Files.{file_row, files_told, in_one, times_row, times_told}
use Rattle.scl_rounds.specs.Plans.{there_row, there_told}

row_behind : (answer row : List declared_field.Field) (rest : Row) → row_of (answer ++ row) ++ rest ≡ row_of answer ++ (row_of row ++ rest)
row_behind [] row rest = refl
row_behind (field ∷ answer) row rest = ap (λ it. field_of field ∷ it) (row_behind answer row rest)

rows_behind : (answer row : List declared_field.Field) (rows : Option (List Row))
    → option_map (λ rest. row_of (answer ++ row) ++ rest) (option_map in_one rows)
    ≡ option_map (λ rest. row_of answer ++ rest) (option_map in_one (option_map (λ values. values.0 ∷ values.1) (option_zip (Some (row_of row)) rows)))
rows_behind answer row None = refl
rows_behind answer row (Some rows) = ap Some (row_behind answer row (in_one rows))

there : (each : List ℕ → Option Row) (name : List ℕ) (names : List (List ℕ)) (answer row : List declared_field.Field) → Some (row_of row) ≡ each name
    → option_map (λ rest. row_of (answer ++ row) ++ rest) (option_map in_one (all_there (map each names)))
    ≡ option_map (λ rest. row_of answer ++ rest) (option_map in_one (all_there (map each (name ∷ names))))
there each name names answer row it =
    rows_behind answer row (all_there (map each names))
    ∙ ap (λ first. option_map (λ rest. row_of answer ++ rest) (option_map in_one (option_map (λ values. values.0 ∷ values.1) (option_zip first (all_there (map each names)))))) it

pub file_there : (m : Machine) (name : List ℕ) (names : List (List ℕ)) (answer row : List declared_field.Field) → Some (row_of row) ≡ file_row m name
    → option_map (λ rest. row_of (answer ++ row) ++ rest) (files_told m names) ≡ option_map (λ rest. row_of answer ++ rest) (files_told m (name ∷ names))
file_there m = there (file_row m)

pub times_there : (m : Machine) (name : List ℕ) (names : List (List ℕ)) (answer row : List declared_field.Field) → Some (row_of row) ≡ times_row m name
    → option_map (λ rest. row_of (answer ++ row) ++ rest) (times_told m names) ≡ option_map (λ rest. row_of answer ++ rest) (times_told m (name ∷ names))
times_there m = there (times_row m)

pub there_there : (m : Machine) (name : List ℕ) (names : List (List ℕ)) (answer row : List declared_field.Field) → Some (row_of row) ≡ there_row m name
    → option_map (λ rest. row_of (answer ++ row) ++ rest) (there_told m names) ≡ option_map (λ rest. row_of answer ++ rest) (there_told m (name ∷ names))
there_there m = there (there_row m)
