use Rattle.std.proofs.Common.{◌≡◌, ◌++◌, length}
use Rattle.scl_patterns.specs.Assembled.{read_from, reading}
use Rattle.scl_patterns.proofs.assembled.read.Given as goal

abbrev pub invariant-loop-rest : goal.invariant-loop-rest
invariant-loop-rest l = l.read.items ++ read_from (reading l.pass) l.skip l.rest ≡ read_from (reading l.pass) 0 l.fn.text

abbrev pub decreases-loop-rest : goal.decreases-loop-rest
decreases-loop-rest l = length l.rest
