use Rattle.std.proofs.Common.{length}
use Rattle.scl_gnu.specs.Runs.{arch_outputs}
use Rattle.scl_requests.proofs.JoiningLaws.{Read}
use Rattle.scl_requests.proofs.joining.runs_of.Given as goal

abbrev pub invariant-loop-line : goal.invariant-loop-line
invariant-loop-line l = Read l.bytes l.left l.number (arch_outputs l.runs.items)

abbrev pub decreases-loop-line : goal.decreases-loop-line
decreases-loop-line l = length l.left
