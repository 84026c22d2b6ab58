use Rattle.std.proofs.Common.{◌≡◌, ◌++◌, drop, map}
use Rattle.scl_key.specs.Effects.{pieces}
use Rattle.scl_key.proofs.effect.push_pieces.Given as goal

abbrev pub invariant-loop-at : goal.invariant-loop-at
invariant-loop-at l = map (λ v. v.now) l.found.items ++ pieces l.mark l.left (drop l.at l.text) ≡ map (λ v. v.now) l.initial.found.items ++ pieces l.mark l.whole l.text
