use Rattle.std.proofs.Common.{◌≡◌, ◌++◌, length}
use Rattle.scl_values.specs.Words.{words_of}
use Rattle.scl_rounds.specs.Headers.{named}
use Rattle.scl_rounds.proofs.header.push_named.Given as goal

abbrev pub invariant-loop-rest : goal.invariant-loop-rest
invariant-loop-rest l = words_of l.names.items ++ named l.what (words_of l.rest) ≡ words_of l.initial.names.items ++ named l.what (words_of l.fn.searched)

abbrev pub decreases-loop-rest : goal.decreases-loop-rest
decreases-loop-rest l = length l.rest
