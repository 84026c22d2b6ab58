use Rattle.std.proofs.Common.{◌≡◌, ◌++◌, length, map}
use Rattle.scl_readings.specs.Lines.{leading_lines}
use Rattle.scl_readings.proofs.lines.leading_lines.Given as goal

abbrev pub invariant-loop-line : goal.invariant-loop-line
invariant-loop-line l = map (λ line. line.now) l.lines.items ++ leading_lines l.rest ≡ leading_lines l.fn.text

abbrev pub decreases-loop-line : goal.decreases-loop-line
decreases-loop-line l = length l.rest
