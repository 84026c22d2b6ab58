use Rattle.std.proofs.Common.{◌≡◌, true, take}
use Rattle.scl_base_dirs.specs.Cuts.{has_none}
use Rattle.scl_base_dirs.proofs.cut.cut_at.Given as goal

abbrev pub invariant-loop-at : goal.invariant-loop-at
invariant-loop-at l = has_none l.mark (take l.at l.text) ≡ true
