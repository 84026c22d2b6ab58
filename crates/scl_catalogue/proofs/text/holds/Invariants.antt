use Rattle.std.proofs.Common.{◌≡◌, length}
use Rattle.scl_catalogue.specs.Found.{holds}
use Rattle.scl_catalogue.proofs.text.holds.Given as goal

abbrev pub invariant-loop-behind : goal.invariant-loop-behind
invariant-loop-behind l = holds l.left l.text ≡ holds l.word l.text

abbrev pub decreases-loop-behind : goal.decreases-loop-behind
decreases-loop-behind l = length l.left
