use Rattle.std.proofs.Common.{rules, ◌≡◌, ℕ, ◌+◌, ◌-◌, ◌||◌, false, ◌∷◌, drop, length, map, sym, ap, ◌∙◌, arith}
use Rattle.std.specs.List.{list_any}
use Rattle.std.proofs.lemmas.List.{length-drop, take_all}
use Rattle.std.proofs.lemmas.List.Elements.{All-rest}
use Rattle.memchr.specs.Find.{OccursAt}
use Rattle.scl_patterns.specs.Unseen.{is_no_call}
use Rattle.scl_patterns.proofs.unseen.stands_alone.Goals as goal

pub loop-at-preserved : goal.loop-at-preserved
loop-at-preserved c =
    let line = c.args.line.now in
    let word = c.args.word.now in
    let rest = λ (at : ℕ). drop (at + length word) line in
    let goes : c.loop-at.at-iterator ≡ c.in-Some.at ∷ c.next.new.self = search rules in
    let past = c.in-Some.at + length word in
    let long = length-drop past line in
    let all = take_all (length line - past) (drop past line) (omega (arith, long)) in
    let no : is_no_call (rest c.in-Some.at) ≡ false = ap is_no_call (sym all) ∙ sym c.is_no_call.ensures ∙ c.if-is_no_call.false in
    record {
      found = ap (λ it. it || list_any is_no_call (map rest c.next.new.self)) (sym no) ∙ ap (λ left. list_any is_no_call (map rest left)) (sym goes) ∙ c.loop-at.invariant.found;
      stands = All-rest (OccursAt line word) c.in-Some.at c.next.new.self c.loop-at.at-iterator goes c.loop-at.invariant.stands;
    }
