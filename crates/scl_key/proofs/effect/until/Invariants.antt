use Rattle.std.proofs.Common.{◌≡◌, ◌++◌, take, drop}
use Rattle.scl_key.specs.Effects.{until}
use Rattle.scl_key.proofs.effect.until.Given as goal

abbrev pub invariant-loop-at : goal.invariant-loop-at
invariant-loop-at l = (take l.at l.text ++ until l.mark (drop l.at l.text)) ≡ until l.mark l.text
