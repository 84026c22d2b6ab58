-- Rows cut at spaces.
use Rattle.std.proofs.Common.{◌≡◌, ◌<◌, ℕ, length, true, false, cond, List, [], ◌∷◌, ◌++◌, Option, Some, None, refl, ap, sym, ◌∙◌, nat_eq, append_assoc}
use Rattle.std.proofs.lemmas.List.{map-append}
use Rattle.std.specs.List.{onto_first}
use Rattle.std.specs.Prelude.{Vec}
use Rattle.std.specs.declared.alloc.Global.{Global}
use Rattle.scl_values.specs.Words.{words_of}
use Rattle.scl_description.specs.Fields.{field_of}
use Rattle.scl_description.specs.Lines.{cut_at, with_first}
use Rattle.scl_description.proofs.CutLaws.{cut_at-shorter}
use Rattle.scl_description.specs.Rows.{all_fields, first_and, parts_of, row_of}

abbrev parts : List ℕ → List ℕ → Option (List ℕ × List ℕ)
parts a b = Some (a, b)

abbrev part_before : Option (List ℕ × List ℕ) → List ℕ
part_before None = []
part_before (Some p) = p.0

abbrev part_behind : Option (List ℕ × List ℕ) → List ℕ
part_behind None = []
part_behind (Some p) = p.1

none_first : (b : ℕ) (o : Option (List ℕ × List ℕ)) → with_first b o ≡ None → o ≡ None
none_first b None h = refl
none_first b (Some p) h = cc

parts_behind : (b : ℕ) (bs part rest : List ℕ) (o : Option (List ℕ × List ℕ)) → cut_at 32 bs ≡ o → ((first last : List ℕ) → cut_at 32 bs ≡ parts first last → parts_of bs ≡ first ∷ parts_of last)
    → with_first b o ≡ parts part rest → onto_first b (parts_of bs) ≡ part ∷ parts_of rest
parts_behind b bs part rest None is ih e = cc
parts_behind b bs part rest (Some p) is ih e =
    let front : b ∷ p.0 ≡ part = ap part_before e in
    let back : p.1 ≡ rest = ap part_behind e in
    ap (onto_first b) (ih p.0 p.1 is) ∙ ap (λ l. l ∷ parts_of p.1) front ∙ ap (λ r. part ∷ parts_of r) back

-- the first part is what comes before the first space
parts-cut : (bs part rest : List ℕ) → cut_at 32 bs ≡ parts part rest → parts_of bs ≡ part ∷ parts_of rest
parts-cut [] part rest h = cc
parts-cut (b ∷ bs) part rest h =
    elim (nat_eq b 32) as (λ v. cond v (parts [] bs) (with_first b (cut_at 32 bs)) ≡ parts part rest → cond v ([] ∷ parts_of bs) (onto_first b (parts_of bs)) ≡ part ∷ parts_of rest)
    [ true ↦ λ e. ap (λ o. part_before o ∷ parts_of (part_behind o)) e | false ↦ λ e. parts_behind b bs part rest (cut_at 32 bs) refl (λ first last. parts-cut bs first last) e ] h

-- bytes without a space are a part
parts-only : (bs : List ℕ) → cut_at 32 bs ≡ None → parts_of bs ≡ bs ∷ []
parts-only [] h = refl
parts-only (b ∷ bs) h =
    elim (nat_eq b 32) as (λ v. cond v (parts [] bs) (with_first b (cut_at 32 bs)) ≡ None → cond v ([] ∷ parts_of bs) (onto_first b (parts_of bs)) ≡ (b ∷ bs) ∷ [])
    [ true ↦ λ e. cc | false ↦ λ e. ap (onto_first b) (parts-only bs (none_first b _ e)) ] h

-- ---- fields read so far

-- fields before those of the rest
abbrev pub behind_fields : List (List ℕ) → Option (List (List ℕ)) → Option (List (List ℕ))
behind_fields done None = None
behind_fields done (Some more) = Some (done ++ more)

pub starts : (text : List ℕ) → behind_fields [] (row_of text) ≡ row_of text
starts text = at (row_of text) where
  at : (row : Option (List (List ℕ))) → behind_fields [] row ≡ row
  at None = refl
  at (Some row) = refl

more_field : (done : List (List ℕ)) (field : List ℕ) (row : Option (List (List ℕ))) → behind_fields (done ++ field ∷ []) row ≡ behind_fields done (first_and (Some field) row)
more_field done field None = refl
more_field done field (Some row) = ap Some (append_assoc done (field ∷ []) row)

-- a field that was read before a space
pub goes_on : (text left part rest field : List ℕ) (done : List (List ℕ)) → behind_fields done (row_of left) ≡ row_of text → cut_at 32 left ≡ Some (part, rest) → Some field ≡ field_of part
    → behind_fields (done ++ field ∷ []) (row_of rest) ≡ row_of text
goes_on text left part rest field done so cut read =
    more_field done field (row_of rest) ∙ ap (λ o. behind_fields done (first_and o (row_of rest))) read ∙ ap (λ ps. behind_fields done (all_fields ps)) (sym (parts-cut left part rest cut)) ∙ so

-- no field was read before a space
pub stops : (text left part rest : List ℕ) (done : List (List ℕ)) → behind_fields done (row_of left) ≡ row_of text → cut_at 32 left ≡ Some (part, rest) → None ≡ field_of part
    → None ≡ row_of text
stops text left part rest done so cut read =
    ap (λ o. behind_fields done (first_and o (row_of rest))) read ∙ ap (λ ps. behind_fields done (all_fields ps)) (sym (parts-cut left part rest cut)) ∙ so

-- the last field
pub ends : (text left field : List ℕ) (done : List (List ℕ)) → behind_fields done (row_of left) ≡ row_of text → cut_at 32 left ≡ None → Some field ≡ field_of left
    → Some (done ++ field ∷ []) ≡ row_of text
ends text left field done so uncut read =
    ap (λ o. behind_fields done (first_and o (Some []))) read ∙ ap (λ ps. behind_fields done (all_fields ps)) (sym (parts-only left uncut)) ∙ so

pub ends_without : (text left : List ℕ) (done : List (List ℕ)) → behind_fields done (row_of left) ≡ row_of text → cut_at 32 left ≡ None → None ≡ field_of left → None ≡ row_of text
ends_without text left done so uncut read =
    ap (λ o. behind_fields done (first_and o (Some []))) read ∙ ap (λ ps. behind_fields done (all_fields ps)) (sym (parts-only left uncut)) ∙ so

pub shorter : (bs part rest : List ℕ) → cut_at 32 bs ≡ Some (part, rest) → length rest < length bs
shorter bs part rest cut = cut_at-shorter 32 bs (part, rest) cut

-- what is said of words, and of one more
pub with_word : {A : Type 0} (words : List (Vec ℕ Global)) (word : Vec ℕ Global) (told : List (List ℕ) → A) → told (words_of (words ++ word ∷ [])) ≡ told (words_of words ++ word.items ∷ [])
with_word words word told = ap told (map-append (λ (it : Vec ℕ Global). it.items) words (word ∷ []))
