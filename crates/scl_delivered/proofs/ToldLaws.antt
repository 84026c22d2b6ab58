-- The laws of parts that are told by base directories.
use Rattle.std.proofs.Common.{◌≡◌, ℕ, nat_eq, ◌==◌, ◌&&◌, not, Bool, true, false, List, [], ◌∷◌, ◌++◌, codes, drop, filter, ◌+◌, ◌^◌, ◌<◌, if◌then◌else◌, length, map, Some, refl, sym, ap, ◌∙◌, arith}
use Rattle.std.proofs.lemmas.Bool.{and_parts, false≢true, false_from_ne_true, ne_eqb, eqb-true, eqb-false, not-true}
use Rattle.std.proofs.lemmas.Bool.Decides.{Decides-eqb}
use Rattle.std.proofs.lemmas.Slice.Eq.{starts_is}
use Rattle.std.specs.List.{list_all, starts_with}
use Rattle.scl_text.specs.Records.{artifact}
use Rattle.scl_base_dirs.specs.declared.spelling.Spelling.TheVariants as spelled
use Rattle.scl_base_dirs.specs.Bases.{fits, longest, numbered}
use Rattle.scl_base_dirs.specs.Cuts.{has_none}
use Rattle.scl_base_dirs.specs.Laws.{MaySeparate}
use Rattle.scl_base_dirs.specs.Told.{told_word}
use Rattle.scl_base_dirs.specs.Unmapped.{unmapped}
use Rattle.scl_base_dirs.proofs.BackLaws.{words_are_read_back}
use Rattle.scl_base_dirs.proofs.BaseLaws.{paths_without_base_stand}
use Rattle.scl_base_dirs.proofs.ToldLemmas.{told_list-one}
use Rattle.scl_description.specs.Records.{output_rest}
use Rattle.scl_key.specs.declared.part.Ask.{Ask}
use Rattle.scl_key.specs.declared.part.Ask.TheVariants as asks
use Rattle.scl_key.specs.Parts.{Part, is, output, directory, compiler, plan, asked, run, run_else, pch, sources, times, ask_name}
use Rattle.scl_shared_key.specs.Fields.{flags, told_field, told_row, value_at}
use Rattle.scl_shared_key.specs.Usuals.{is_usual, is_usual_byte}
use Rattle.scl_delivered.specs.Delivered.{told_part}
use Rattle.scl_delivered.specs.Laws.{PartsAreToldAsRows, ToldPartsAreReadBack, untold_part}

-- ---- names stand

abbrev first_of : List ℕ → ℕ
first_of [] = 0
first_of (x ∷ xs) = x

begins_as : (text front : List ℕ) → starts_with nat_eq text front ≡ true → text ≡ front ++ drop (length front) text
begins_as text front h = (starts_is Decides-eqb text front (starts_with nat_eq text front) refl).0 h

usual_front : (d : ℕ) (ds : List ℕ) → is_usual (d ∷ ds) ≡ true → d ≡ 47
usual_front d ds h = ap first_of (begins_as (d ∷ ds) (codes "/") (and_parts (starts_with nat_eq (d ∷ ds) (codes "/")) (list_all is_usual_byte (d ∷ ds)) h).0)

not_begun : (d : ℕ) (ds : List ℕ) (first : ℕ) (rest : List ℕ) → d ≡ 47 → (first ≡ 47 → ⊥) → starts_with nat_eq (first ∷ rest) (d ∷ ds) ≡ false
not_begun d ds first rest slash other =
    false_from_ne_true (starts_with nat_eq (first ∷ rest) (d ∷ ds)) (λ h. other (ap first_of (begins_as (first ∷ rest) (d ∷ ds) h) ∙ slash))

fits_none : (dir : List ℕ) (first : ℕ) (rest : List ℕ) → is_usual dir ≡ true → (first ≡ 47 → ⊥) → fits spelled.Word dir (first ∷ rest) ≡ false
fits_none [] first rest h other = refl
fits_none (d ∷ ds) first rest h other =
    let some : (length (d ∷ ds) == 0) ≡ false = ne_eqb (length (d ∷ ds)) 0 (λ e. omega arith) in
    rw (some, not_begun d ds first rest (usual_front d ds h) other) refl

none_fit : (dirs : List (List ℕ)) (n first : ℕ) (rest : List ℕ) → list_all is_usual dirs ≡ true → (first ≡ 47 → ⊥)
    → filter (λ place. fits spelled.Word place.dir (first ∷ rest)) (numbered n dirs) ≡ []
none_fit [] n first rest h other = refl
none_fit (dir ∷ dirs) n first rest h other =
    let both = and_parts (is_usual dir) (list_all is_usual dirs) h in
    rw (fits_none dir first rest both.0 other) (none_fit dirs (n + 1) first rest both.1 other)

-- a name that is no path, has no flag in front, and no `=` or NUL
abbrev is_plain : List ℕ → Bool
is_plain [] = false
is_plain (first ∷ rest) = not (first == 47) && (value_at (first ∷ rest) == 0 && (has_none 61 (first ∷ rest) && has_none 0 (first ∷ rest)))

stands : (dirs : List (List ℕ)) (name : List ℕ) → list_all is_usual dirs ≡ true → is_plain name ≡ true → told_field dirs name ≡ name
stands dirs [] h plain = absurd (false≢true plain)
stands dirs (first ∷ rest) h plain =
    let name = first ∷ rest in
    let other = and_parts (not (first == 47)) (value_at name == 0 && (has_none 61 name && has_none 0 name)) plain in
    let flag = and_parts (value_at name == 0) (has_none 61 name && has_none 0 name) other.1 in
    let bytes = and_parts (has_none 61 name) (has_none 0 name) flag.1 in
    ap (λ (at : ℕ). told_word dirs at (Some 61) name) (eqb-true (value_at name) 0 flag.0)
    ∙ told_list-one dirs 61 name bytes.0
    ∙ paths_without_base_stand spelled.Word dirs name (ap longest (none_fit dirs 0 first rest h (eqb-false first 47 (not-true (first == 47) other.0)))) bytes.1

-- ---- parts are told as rows

-- a row whose name stands
named : (dirs : List (List ℕ)) (name : List ℕ) (row : List (List ℕ)) → list_all is_usual dirs ≡ true → is_plain name ≡ true
    → name ∷ told_row dirs row ≡ told_row dirs (name ∷ row)
named dirs name row h plain = ap (λ (n : List ℕ). n ∷ told_row dirs row) (sym (stands dirs name h plain))

optional_told : (dirs : List (List ℕ)) (b : Bool) → list_all is_usual dirs ≡ true
    → (if b then codes "optional" ∷ [] else []) ≡ told_row dirs (if b then codes "optional" ∷ [] else [])
unfolding flags
optional_told dirs true h = named dirs (codes "optional") [] h refl
optional_told dirs false h = refl

asks_are_plain : (ask : Ask) → is_plain (ask_name ask) ≡ true
unfolding flags
asks_are_plain asks.Env = refl
asks_are_plain asks.Unset = refl
asks_are_plain asks.File = refl
asks_are_plain asks.Maybe = refl
asks_are_plain asks.Regular = refl
asks_are_plain asks.SourcesIfShown = refl
asks_are_plain asks.RefuseIfShown = refl

pub parts_are_told_as_rows : PartsAreToldAsRows
unfolding flags
parts_are_told_as_rows dirs (is row) h = named dirs (codes "is") row h refl
parts_are_told_as_rows dirs (output made) h =
    ap (λ (rest : List (List ℕ)). codes "output" ∷ told_field dirs made.name ∷ told_field dirs made.path ∷ rest) (optional_told dirs made.optional h)
    ∙ named dirs (codes "output") (output_rest made) h refl
parts_are_told_as_rows dirs directory h = named dirs (codes "directory") [] h refl
parts_are_told_as_rows dirs compiler h = named dirs (codes "compiler") [] h refl
parts_are_told_as_rows dirs (plan words) h = named dirs (codes "plan") words h refl
parts_are_told_as_rows dirs (asked ask name) h = named dirs (ask_name ask) (name ∷ []) h (asks_are_plain ask)
parts_are_told_as_rows dirs (run words) h = named dirs (codes "run") words h refl
parts_are_told_as_rows dirs (run_else words) h = named dirs (codes "run-else") words h refl
parts_are_told_as_rows dirs (pch searched) h = named dirs (codes "pch") searched h refl
parts_are_told_as_rows dirs sources h = named dirs (codes "sources") [] h refl
parts_are_told_as_rows dirs times h = named dirs (codes "times") [] h refl

-- ---- parts are read back

equals_sign : MaySeparate (Some 61)
equals_sign = λ e. omega arith

pub field_back : (dirs : List (List ℕ)) (field : List ℕ) → length dirs < 2 ^ 64 → unmapped dirs (told_field dirs field) ≡ field
field_back dirs field few = words_are_read_back dirs (value_at field) (Some 61) field few equals_sign

pub row_back : (dirs row : List (List ℕ)) → length dirs < 2 ^ 64 → map (unmapped dirs) (told_row dirs row) ≡ row
row_back dirs [] few = refl
row_back dirs (field ∷ row) few =
    ap (λ (first : List ℕ). first ∷ map (unmapped dirs) (told_row dirs row)) (field_back dirs field few)
    ∙ ap (λ (rest : List (List ℕ)). field ∷ rest) (row_back dirs row few)

part_back : (dirs : List (List ℕ)) (part : Part) → length dirs < 2 ^ 64 → untold_part dirs (told_part dirs part) ≡ part
part_back dirs (is row) few = ap is (row_back dirs row few)
part_back dirs (output made) few =
    ap (λ (name : List ℕ). output (artifact name (unmapped dirs (told_field dirs made.path)) made.optional)) (field_back dirs made.name few)
    ∙ ap (λ (path : List ℕ). output (artifact made.name path made.optional)) (field_back dirs made.path few)
part_back dirs directory few = refl
part_back dirs compiler few = refl
part_back dirs (plan words) few = ap plan (row_back dirs words few)
part_back dirs (asked ask name) few = ap (asked ask) (field_back dirs name few)
part_back dirs (run words) few = ap run (row_back dirs words few)
part_back dirs (run_else words) few = ap run_else (row_back dirs words few)
part_back dirs (pch searched) few = ap pch (row_back dirs searched few)
part_back dirs sources few = refl
part_back dirs times few = refl

pub told_parts_are_read_back : ToldPartsAreReadBack
told_parts_are_read_back dirs [] few = refl
told_parts_are_read_back dirs (part ∷ parts) few =
    ap (λ (first : Part). first ∷ map (untold_part dirs) (map (told_part dirs) parts)) (part_back dirs part few)
    ∙ ap (λ (rest : List Part). part ∷ rest) (told_parts_are_read_back dirs parts few)
