use Rattle.std.proofs.Common.{◌≡◌, length}
use Rattle.scl_reader.specs.Apple.{holds_apple}
use Rattle.scl_reader.proofs.apple.holds_apple.Given as goal

abbrev pub invariant-loop-behind : goal.invariant-loop-behind
invariant-loop-behind l = holds_apple l.left ≡ holds_apple l.text

abbrev pub decreases-loop-behind : goal.decreases-loop-behind
decreases-loop-behind l = length l.left
