-- The laws of keys of two checkouts.
use Rattle.std.proofs.Common.{◌≡◌, ℕ, ◌==◌, ◌&&◌, not, Bool, true, false, cond, List, [], ◌∷◌, ◌++◌, length, drop, map, Some, refl, sym, ap, ◌∙◌}
use Rattle.std.proofs.lemmas.Bool.{and_parts}
use Rattle.std.proofs.lemmas.List.{drop_at, take_at}
use Rattle.std.specs.List.{join_with_byte, list_all}
use Rattle.scl_values.specs.Each.{Each}
use Rattle.scl_base_dirs.specs.declared.spelling.Spelling.TheVariants as spelled
use Rattle.scl_base_dirs.specs.Told.{told_base, told_below, told_list, told_path, told_text, told_word}
use Rattle.scl_base_dirs.proofs.ToldLemmas.{told_list-cut, told_list-one}
use Rattle.scl_key.specs.Laws.{part_back}
use Rattle.scl_key.specs.Parts.{Part, fields}
use Rattle.scl_key.proofs.KeyLaws.{part-back}
use Rattle.scl_shared_key.specs.declared.said.InObject.{InObject}
use Rattle.scl_shared_key.specs.declared.said.InObject.TheVariants.{Yes}
use Rattle.scl_shared_key.specs.Fields.{told_field, told_row, told_rows}
use Rattle.scl_shared_key.specs.Objects.{Object, may_name_anything}
use Rattle.scl_shared_key.specs.Usuals.{are_usual, is_usual}
use Rattle.scl_shared_key.specs.Verdicts.{Verdict, named_if_known, verdict}
use Rattle.scl_delivered.specs.Delivered.{Delivered, names_none, told_by, told_part}
use Rattle.scl_delivered.proofs.ToldLaws.{parts_are_told_as_rows}
use Rattle.scl_requests.specs.SharedLaws.{Path, Field, below, beside, paths_of, numbered_dir, path_at, field_at, rows_at, IsPathAt, IsFieldAt, AreRowsAt, HasRowsAt, SayTheSame, RowsAreToldAlike, OnlyTheBasesDiffer}

-- ---- what is told of a path, a field and rows, whatever the checkout

abbrev path_told : Path → List ℕ
path_told (below number rest) = told_base number ++ told_text rest
path_told (beside path) = told_text path

abbrev field_told : Field → List ℕ
field_told field = told_text field.front ++ join_with_byte 61 (map path_told (paths_of field))

abbrev rows_told : List (List Field) → List (List (List ℕ))
rows_told rows = map (map field_told) rows

path_is : (dirs : List (List ℕ)) (path : Path) → IsPathAt dirs path → told_path spelled.Word dirs (path_at dirs path) ≡ path_told path
path_is dirs (below number rest) h =
    let dir = numbered_dir dirs number in
    ap (λ o. told_below o (dir ++ rest)) h.by_base ∙ ap (λ t. told_base number ++ told_text t) (drop_at dir rest (length dir) refl)
path_is dirs (beside path) h = ap (λ o. told_below o path) h.by_base

list_is : (dirs : List (List ℕ)) (first : Path) (more : List Path) → IsPathAt dirs first → Each (IsPathAt dirs) more
    → told_list dirs 61 (join_with_byte 61 (map (path_at dirs) (first ∷ more))) ≡ join_with_byte 61 (map path_told (first ∷ more))
list_is dirs first [] h hs = told_list-one dirs 61 (path_at dirs first) h.is_one ∙ path_is dirs first h
list_is dirs first (next ∷ more) h hs =
    let after = join_with_byte 61 (map (path_at dirs) (next ∷ more)) in
    let rest = join_with_byte 61 (map path_told (next ∷ more)) in
    told_list-cut dirs 61 (path_at dirs first ++ 61 ∷ after) (path_at dirs first) after (record { whole = refl; first = h.is_one })
    ∙ ap (λ t. t ++ 61 ∷ told_list dirs 61 after) (path_is dirs first h)
    ∙ ap (λ t. path_told first ++ 61 ∷ t) (list_is dirs next more hs.0 hs.1)

field_is : (dirs : List (List ℕ)) (field : Field) → IsFieldAt dirs field → told_field dirs (field_at dirs field) ≡ field_told field
field_is dirs field h =
    let value = join_with_byte 61 (map (path_at dirs) (paths_of field)) in
    ap (λ at. told_word dirs at (Some 61) (field_at dirs field)) h.begin
    ∙ ap (λ t. told_text t ++ told_list dirs 61 (drop (length field.front) (field_at dirs field))) (take_at field.front value (length field.front) refl)
    ∙ ap (λ t. told_text field.front ++ told_list dirs 61 t) (drop_at field.front value (length field.front) refl)
    ∙ ap (λ t. told_text field.front ++ t) (list_is dirs field.first field.more h.paths.0 h.paths.1)

row_is : (dirs : List (List ℕ)) (row : List Field) → Each (IsFieldAt dirs) row → told_row dirs (map (field_at dirs) row) ≡ map field_told row
row_is dirs [] h = refl
row_is dirs (field ∷ row) h =
    ap (λ t. t ∷ told_row dirs (map (field_at dirs) row)) (field_is dirs field h.0) ∙ ap (λ ts. field_told field ∷ ts) (row_is dirs row h.1)

rows_are : (dirs : List (List ℕ)) (rows : List (List Field)) → AreRowsAt dirs rows → told_rows dirs (rows_at dirs rows) ≡ rows_told rows
rows_are dirs [] h = refl
rows_are dirs (row ∷ rows) h =
    ap (λ t. t ∷ told_rows dirs (rows_at dirs rows)) (row_is dirs row h.0) ∙ ap (λ ts. map field_told row ∷ ts) (rows_are dirs rows h.1)

pub rows_are_told_alike : RowsAreToldAlike
rows_are_told_alike = λ dirs others rows h k. rows_are dirs rows h ∙ sym (rows_are others rows k)

-- ---- parts

parts_told : (dirs : List (List ℕ)) (parts : List Part) → list_all is_usual dirs ≡ true → map (told_part dirs) parts ≡ map part_back (told_rows dirs (map fields parts))
parts_told dirs [] usual = refl
parts_told dirs (part ∷ parts) usual =
    ap (λ (p : Part). p ∷ map (told_part dirs) parts) (sym (part-back (told_part dirs part)) ∙ ap part_back (parts_are_told_as_rows dirs part usual))
    ∙ ap (λ (ps : List Part). part_back (told_row dirs (fields part)) ∷ ps) (parts_told dirs parts usual)

-- ---- keys

-- directories are usual if an object names none of them
one_of : (usual : Bool) (named : InObject) → names_none (cond usual named Yes) ≡ true → usual ≡ true
one_of true named h = refl
one_of false named h = h

pub all_usual : (dirs : List (List ℕ)) (o : Object) → names_none (verdict dirs o).in_object ≡ true → are_usual dirs ≡ true
all_usual dirs o h =
    let known = o.is_of_shown_text && not (may_name_anything o) in
    (and_parts (are_usual dirs) known (one_of (are_usual dirs && known) (named_if_known dirs o) h)).0

-- what is made of a key that is told
abbrev pub made : Verdict → List Part → List (List ℕ) → Delivered
made said parts shown = record { verdict = Some said; parts = parts; direct = []; shown = shown }

pub told_is : (dirs : List (List ℕ)) (said : Verdict) (d : Delivered) → names_none said.in_object ≡ true → told_by dirs said d ≡ made said (map (told_part dirs) d.parts) (told_row dirs d.shown)
told_is dirs said d none = ap (λ (b : Bool). cond b (made said (map (told_part dirs) d.parts) (told_row dirs d.shown)) (record d { verdict = Some said })) none

key_told : (dirs : List (List ℕ)) (rows : List (List Field)) (macros : List Field) (o : Object) (d : Delivered) → HasRowsAt dirs rows macros d → names_none (verdict dirs o).in_object ≡ true
    → told_by dirs (verdict dirs o) d ≡ made (verdict dirs o) (map part_back (rows_told rows)) (map field_told macros)
key_told dirs rows macros o d h none =
    let said = verdict dirs o in
    let usual = (and_parts (not (length dirs == 0)) (list_all is_usual dirs) (all_usual dirs o none)).1 in
    told_is dirs said d none
    ∙ ap (λ (parts : List Part). made said parts (told_row dirs d.shown))
    (parts_told dirs d.parts usual ∙ ap (λ (r : List (List (List ℕ))). map part_back (told_rows dirs r)) h.parts ∙ ap (map part_back) (rows_are dirs rows h.are_rows))
    ∙ ap (made said (map part_back (rows_told rows))) (ap (told_row dirs) h.shown ∙ row_is dirs macros h.are_macros)

pub named_by_none : (dirs others : List (List ℕ)) (o o' : Object) → SayTheSame dirs others o o' → names_none (verdict others o').in_object ≡ true
named_by_none dirs others o o' same = ap (λ (said : Verdict). names_none said.in_object) (sym same.verdicts) ∙ same.name_none

pub only_the_bases_differ : OnlyTheBasesDiffer
only_the_bases_differ = λ dirs others rows macros o o' d d' here there same.
    key_told dirs rows macros o d here same.name_none
    ∙ ap (λ (said : Verdict). made said (map part_back (rows_told rows)) (map field_told macros)) same.verdicts
    ∙ sym (key_told others rows macros o' d' there (named_by_none dirs others o o' same))

pub ruleset shared_laws = (rows_are_told_alike, only_the_bases_differ)
