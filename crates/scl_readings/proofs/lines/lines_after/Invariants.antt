use Rattle.std.proofs.Common.{◌≡◌, ◌++◌, length, map}
use Rattle.scl_readings.specs.Lines.{lines_after}
use Rattle.scl_readings.proofs.lines.lines_after.Given as goal

abbrev pub invariant-loop-line : goal.invariant-loop-line
invariant-loop-line l = map (λ line. line.now) l.lines.items ++ lines_after l.first l.rest ≡ lines_after l.first l.fn.text

abbrev pub decreases-loop-line : goal.decreases-loop-line
decreases-loop-line l = length l.rest
