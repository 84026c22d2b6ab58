use Rattle.std.proofs.Common.{◌≡◌, take, None}
use Rattle.scl_description.specs.Lines.{cut_at}
use Rattle.scl_description.proofs.cut.cut_at.Given as goal

abbrev pub invariant-loop-at : goal.invariant-loop-at
invariant-loop-at l = cut_at l.mark (take l.at l.bytes) ≡ None
