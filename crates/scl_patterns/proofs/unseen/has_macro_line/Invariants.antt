use Rattle.std.proofs.Common.{◌≡◌, length}
use Rattle.std.specs.List.{list_any}
use Rattle.scl_readings.specs.Lines.{lines}
use Rattle.scl_patterns.specs.Unseen.{is_macro_line}
use Rattle.scl_patterns.proofs.unseen.has_macro_line.Given as goal

abbrev pub invariant-loop-line : goal.invariant-loop-line
invariant-loop-line l = list_any is_macro_line (lines l.rest) ≡ list_any is_macro_line (lines l.fn.text)

abbrev pub decreases-loop-line : goal.decreases-loop-line
decreases-loop-line l = length l.rest
