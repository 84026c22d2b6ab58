-- The laws of rows that are told by base directories.
use Rattle.std.proofs.Common.{◌≡◌, ℕ, ◌^◌, ◌<◌, List, [], ◌∷◌, ◌++◌, length, map, Some, refl, sym, ap, ◌∙◌, arith}
use Rattle.scl_base_dirs.specs.declared.spelling.Spelling.TheVariants as spelled
use Rattle.scl_base_dirs.specs.Told.{told_path, told_word}
use Rattle.scl_base_dirs.specs.Laws.{MaySeparate}
use Rattle.scl_base_dirs.specs.Unmapped.{unmapped}
use Rattle.scl_base_dirs.proofs.BackLaws.{words_are_read_back}
use Rattle.scl_base_dirs.proofs.BaseLaws.{only_the_base_differs, paths_without_base_stand}
use Rattle.scl_base_dirs.proofs.ToldLemmas.{told_list-one}
use Rattle.scl_shared_key.specs.Fields.{told_field, told_row, told_rows, value_at}
use Rattle.scl_shared_key.specs.Laws.{IsPath, RowsAreReadBack, PathsWithoutBaseStand, OnlyTheBaseDiffers, unmapped_rows}

equals_sign : MaySeparate (Some 61)
equals_sign = λ e. omega arith

field_back : (dirs : List (List ℕ)) (field : List ℕ) → length dirs < 2 ^ 64 → unmapped dirs (told_field dirs field) ≡ field
field_back dirs field few = words_are_read_back dirs (value_at field) (Some 61) field few equals_sign

-- a path is told as one
path_is : (dirs : List (List ℕ)) (field : List ℕ) → IsPath field → told_field dirs field ≡ told_path spelled.Word dirs field
path_is dirs field path = ap (λ (at : ℕ). told_word dirs at (Some 61) field) path.has_no_flag ∙ told_list-one dirs 61 field path.is_one

row_back : (dirs row : List (List ℕ)) → length dirs < 2 ^ 64 → map (unmapped dirs) (told_row dirs row) ≡ row
row_back dirs [] few = refl
row_back dirs (field ∷ row) few =
    ap (λ (first : List ℕ). first ∷ map (unmapped dirs) (told_row dirs row)) (field_back dirs field few)
    ∙ ap (λ (rest : List (List ℕ)). field ∷ rest) (row_back dirs row few)

rows_back : (dirs : List (List ℕ)) (rows : List (List (List ℕ))) → length dirs < 2 ^ 64 → unmapped_rows dirs (told_rows dirs rows) ≡ rows
rows_back dirs [] few = refl
rows_back dirs (row ∷ rows) few =
    ap (λ (first : List (List ℕ)). first ∷ unmapped_rows dirs (told_rows dirs rows)) (row_back dirs row few)
    ∙ ap (λ (rest : List (List (List ℕ))). row ∷ rest) (rows_back dirs rows few)

pub rows_are_read_back : RowsAreReadBack
rows_are_read_back = rows_back

pub others_stand : PathsWithoutBaseStand
others_stand = λ dirs field path none plain. path_is dirs field path ∙ paths_without_base_stand spelled.Word dirs field none plain

pub only_bases_differ : OnlyTheBaseDiffers
only_bases_differ = λ dirs others number dir other rest first second e f.
    path_is dirs (dir ++ rest) first ∙ only_the_base_differs spelled.Word dirs others number dir other rest e f ∙ sym (path_is others (other ++ rest) second)

pub ruleset shared_laws = (rows_are_read_back, others_stand, only_bases_differ)
