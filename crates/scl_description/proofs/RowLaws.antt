-- Rows that are written are read back.
use Rattle.std.proofs.Common.{◌≡◌, ℕ, false, cond, List, [], ◌∷◌, ◌++◌, map, Some, None, refl, ap, ◌∙◌, arith, nat_eq, append-nil}
use Rattle.std.specs.List.{filter_map, cons_option, onto_first}
use Rattle.std.proofs.lemmas.Bool.Decides.{nat_tests}
use Rattle.scl_values.specs.Escaped.{escaped}
use Rattle.scl_description.specs.Fields.{ArePrintable, AreAllBytes}
use Rattle.scl_description.specs.Lines.{cut_at}
use Rattle.scl_description.specs.Laws.{RowsReadBack}
use Rattle.scl_description.specs.Rows.{fields_behind, row_text, rows_text, parts_of, all_fields, row_of, rows_in, IsRow}
use Rattle.scl_description.proofs.CutLaws.{cut_at-append}
use Rattle.scl_description.proofs.WrittenFieldLaws.{escaped-printable, field-escaped, no-feed, lines-line}

-- printable bytes before other parts
parts-front : (a rest first : List ℕ) (others : List (List ℕ)) → ArePrintable a → parts_of rest ≡ first ∷ others → parts_of (a ++ rest) ≡ (a ++ first) ∷ others
parts-front [] rest first others are h = h
parts-front (b ∷ bs) rest first others are h =
    let other : nat_eq b 32 ≡ false = grind (arith, nat_tests, are.0.0) in
    ap (λ v. cond v ([] ∷ parts_of (bs ++ rest)) (onto_first b (parts_of (bs ++ rest)))) other
    ∙ ap (onto_first b) (parts-front bs rest first others are.1 h)

parts-field : (field rest : List ℕ) (others : List (List ℕ)) → ArePrintable (escaped field) → parts_of rest ≡ [] ∷ others → parts_of (escaped field ++ rest) ≡ escaped field ∷ others
parts-field field rest others are h = parts-front (escaped field) rest [] others are h ∙ ap (λ f. f ∷ others) (append-nil (escaped field))

parts-behind : (fields : List (List ℕ)) → AreAllBytes fields → parts_of (fields_behind fields) ≡ [] ∷ map escaped fields
parts-behind [] are = refl
parts-behind (field ∷ fields) are =
    ap (λ ps. [] ∷ ps) (parts-field field (fields_behind fields) (map escaped fields) (escaped-printable field are.0) (parts-behind fields are.1))

fields-back : (fields : List (List ℕ)) → AreAllBytes fields → all_fields (map escaped fields) ≡ Some fields
fields-back [] are = refl
fields-back (field ∷ fields) are = rw (field-escaped field are.0, fields-back fields are.1) refl

row-back : (row : List (List ℕ)) → IsRow row → row_of (row_text row) ≡ Some row
row-back [] is = absurd is
row-back (field ∷ fields) is =
    ap all_fields (parts-field field (fields_behind fields) (map escaped fields) (escaped-printable field is.0) (parts-behind fields is.1))
    ∙ fields-back (field ∷ fields) is

behind-no-feed : (fields : List (List ℕ)) → AreAllBytes fields → cut_at 10 (fields_behind fields) ≡ None
behind-no-feed [] are = refl
behind-no-feed (field ∷ fields) are =
    cut_at-append 10 (32 ∷ []) (escaped field ++ fields_behind fields) refl (cut_at-append 10 (escaped field) (fields_behind fields) (no-feed field are.0) (behind-no-feed fields are.1))

row-no-feed : (row : List (List ℕ)) → IsRow row → cut_at 10 (row_text row) ≡ None
row-no-feed [] is = refl
row-no-feed (field ∷ fields) is = cut_at-append 10 (escaped field) (fields_behind fields) (no-feed field is.0) (behind-no-feed fields is.1)

pub rows-back : RowsReadBack
rows-back [] are = refl
rows-back (row ∷ rows) are =
    ap (filter_map row_of) (lines-line (row_text row) (rows_text rows) (row-no-feed row are.0))
    ∙ ap (λ o. cons_option o (rows_in (rows_text rows))) (row-back row are.0)
    ∙ ap (λ rs. row ∷ rs) (rows-back rows are.1)
