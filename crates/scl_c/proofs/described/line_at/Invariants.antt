use Rattle.std.proofs.Common.{◌≡◌, ◌-◌, [], get_or, length}
use Rattle.scl_description.specs.Lines.{lines_of}
use Rattle.scl_c.proofs.described.line_at.Given as goal

abbrev pub invariant-loop-line : goal.invariant-loop-line
invariant-loop-line l = get_or (lines_of l.left) l.before [] ≡ get_or (lines_of l.bytes) (l.number - 1) []

abbrev pub decreases-loop-line : goal.decreases-loop-line
decreases-loop-line l = length l.left
