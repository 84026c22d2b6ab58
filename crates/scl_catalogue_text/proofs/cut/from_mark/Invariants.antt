use Rattle.std.proofs.Common.{◌≡◌, ◌≤◌, length}
use Rattle.scl_catalogue_text.specs.Cutting.{from_mark}
use Rattle.scl_catalogue_text.proofs.cut.from_mark.Given as goal

abbrev pub invariant-loop-first : goal.invariant-loop-first
invariant-loop-first l = record { same : from_mark l.mark l.left ≡ from_mark l.mark l.bytes; within : length l.left ≤ length l.bytes }

abbrev pub decreases-loop-first : goal.decreases-loop-first
decreases-loop-first l = length l.left
