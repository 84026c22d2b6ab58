use Rattle.std.proofs.Common.{rules, ◌≡◌, ℕ, ◌+◌, ◌-◌, ◌||◌, false, ◌∷◌, drop, length, map, sym, ap, ◌∙◌, arith}
use Rattle.std.specs.List.{list_any}
use Rattle.std.proofs.lemmas.List.{length-drop, take_all}
use Rattle.std.proofs.lemmas.List.Elements.{All-rest}
use Rattle.memchr.specs.Find.{OccursAt}
use Rattle.scl_patterns.specs.Unseen.{follows}
use Rattle.scl_patterns.proofs.unseen.is_followed.Goals as goal

pub loop-at-preserved : goal.loop-at-preserved
loop-at-preserved c =
    let text = c.args.text.now in
    let word = c.args.word.now in
    let rest = λ (at : ℕ). drop (at + length word) text in
    let is = follows c.args.next in
    let goes : c.loop-at.at-iterator ≡ c.in-Some.at ∷ c.next.new.self = search rules in
    let past = c.in-Some.at + length word in
    let long = length-drop past text in
    let all = take_all (length text - past) (drop past text) (omega (arith, long)) in
    let no : is (rest c.in-Some.at) ≡ false = ap is (sym all) ∙ sym c.follows.ensures ∙ c.if-follows.false in
    record {
      found = ap (λ it. it || list_any is (map rest c.next.new.self)) (sym no) ∙ ap (λ left. list_any is (map rest left)) (sym goes) ∙ c.loop-at.invariant.found;
      stands = All-rest (OccursAt text word) c.in-Some.at c.next.new.self c.loop-at.at-iterator goes c.loop-at.invariant.stands;
    }
