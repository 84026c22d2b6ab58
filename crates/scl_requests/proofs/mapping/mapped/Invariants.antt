use Rattle.std.proofs.Common.{length}
use Rattle.scl_requests.specs.MappingRead.{gathered_by}
use Rattle.scl_requests.proofs.MappingLaws.{Passed}
use Rattle.scl_requests.proofs.mapping.mapped.Given as goal

abbrev pub invariant-loop-line : goal.invariant-loop-line
invariant-loop-line l = Passed l.bytes l.left l.number (gathered_by l.draft)

abbrev pub decreases-loop-line : goal.decreases-loop-line
decreases-loop-line l = length l.left
