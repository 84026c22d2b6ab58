use Rattle.std.proofs.Common.{◌≡◌, ◌++◌, ◌∷◌, [], List, ℕ, Bool, true, false, map, ap, sym, ◌∙◌, append_assoc}
use Rattle.std.proofs.lemmas.List.{map-append}
use Rattle.scl_values.specs.Words.{words_of}
use Rattle.scl_key.specs.Parts.{Part, is}
use Rattle.scl_key.specs.Told.{is_left_out, kept_rows}
use Rattle.scl_key.specs.Views.{part_of, parts_of}
use Rattle.scl_key.proofs.PartLaws.{row_in, row_out}
use Rattle.scl_key.proofs.told.FactsTakesRows.take.Goals as goal

pub returns-then-is_left_out : goal.returns-then-is_left_out
returns-then-is_left_out c start told has =
    let rest : List (List ℕ) = map (λ field. field.now) c.args.fields.now ++ words_of c.args.words.now in
    let out : is_left_out start.is_shown c.args.name.now ≡ true = ap (λ (b : Bool). is_left_out b c.args.name.now) (sym has.0) ∙ sym c.is_left_out.ensures ∙ c.if-is_left_out.true in
    (has.0, has.1 ∙ ap (λ (rows : List (List (List ℕ))). parts_of start.parts.items ++ map is rows) (sym (row_out start.is_shown c.args.name.now rest told out)))

pub returns : goal.returns
returns c start told has =
    let rest : List (List ℕ) = map (λ field. field.now) c.args.fields.now ++ words_of c.args.words.now in
    let row : List (List ℕ) = c.args.name.now ∷ rest in
    let stays : is_left_out start.is_shown c.args.name.now ≡ false = ap (λ (b : Bool). is_left_out b c.args.name.now) (sym has.0) ∙ sym c.is_left_out.ensures ∙ c.if-is_left_out.false in
    let before : List Part = map is (kept_rows start.is_shown told) in
    let more : parts_of c.push.new.self.items ≡ parts_of c.args.self.now.parts.items ++ is row ∷ [] =
    ap (λ ps. parts_of ps) c.in_ok-push.ensures.items ∙ map-append part_of c.args.self.now.parts.items (c.in_ok-fact.fact ∷ []) ∙ ap (λ (part : Part). parts_of c.args.self.now.parts.items ++ part ∷ []) c.in_ok-fact.ensures in
    let after : before ++ is row ∷ [] ≡ map is (kept_rows start.is_shown (told ++ row ∷ [])) =
    sym (ap (λ (rows : List (List (List ℕ))). map is rows) (row_in start.is_shown c.args.name.now rest told stays) ∙ map-append is (kept_rows start.is_shown told) (row ∷ [])) in
    (has.0, more ∙ ap (λ (parts : List Part). parts ++ is row ∷ []) has.1 ∙ append_assoc (parts_of start.parts.items) before (is row ∷ []) ∙ ap (λ (parts : List Part). parts_of start.parts.items ++ parts) after)
