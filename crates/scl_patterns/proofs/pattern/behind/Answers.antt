use Rattle.std.proofs.Common.{rules, ◌≡◌, ◌+◌, ◌++◌, [], ◌∷◌, drop, length, map, ap, ◌∙◌, arith}
use Rattle.std.proofs.lemmas.Grind.{common_steps}
use Rattle.std.proofs.lemmas.List.Elements.{All-rest}
use Rattle.memchr.specs.Find.{OccursAt}
use Rattle.scl_patterns.specs.Patterns.{behind}
use Rattle.scl_patterns.proofs.PlaceLemmas.{one_more_behind}
use Rattle.scl_patterns.proofs.pattern.behind.Goals as goal

pub loop-at-preserved : goal.loop-at-preserved
loop-at-preserved c =
    let text = c.args.text.now in
    let word = c.args.word.now in
    let goes : c.loop-at.at-iterator ≡ c.in-Some.at ∷ c.next.new.self = search rules in
    let pushed : map (λ rest. rest.now) c.push.new.self.items ≡ map (λ rest. rest.now) c.loop-at.found.items ++ drop (c.in-Some.at + length word) text ∷ [] = grind (arith, common_steps) in
    record {
      found =
          ap (λ found. found ++ map (λ at. drop (at + length word) text) c.next.new.self) pushed
          ∙ one_more_behind (λ at. drop (at + length word) text) (map (λ rest. rest.now) c.loop-at.found.items) (behind word text) c.in-Some.at c.loop-at.at-iterator c.next.new.self goes c.loop-at.invariant.found;
      stands = All-rest (OccursAt text word) c.in-Some.at c.next.new.self c.loop-at.at-iterator goes c.loop-at.invariant.stands;
    }
