use Rattle.std.proofs.Common.{◌≡◌, ◌++◌, length}
use Rattle.scl_values.specs.Words.{words_of}
use Rattle.scl_readings.specs.Lines.{parts}
use Rattle.scl_rounds.proofs.header.push_parts.Given as goal

abbrev pub invariant-loop-part : goal.invariant-loop-part
invariant-loop-part l = words_of l.folders.items ++ parts 0x3a l.rest ≡ words_of l.initial.folders.items ++ parts 0x3a l.fn.list

abbrev pub decreases-loop-part : goal.decreases-loop-part
decreases-loop-part l = length l.rest
