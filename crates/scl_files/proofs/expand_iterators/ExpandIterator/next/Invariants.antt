use Rattle.std.proofs.Common.{◌≡◌, false}
use Rattle.scl_files.specs.ExpansionState.{left_of, steps_of}
use Rattle.scl_files.proofs.expand_iterators.ExpandIterator.next.Given as goal

abbrev pub invariant-loop-word : goal.invariant-loop-word
invariant-loop-word l = (l.self-inside.ended ≡ false) × (left_of l.self-inside.expansion ≡ l.fn.self.words)

abbrev pub decreases-loop-word : goal.decreases-loop-word
decreases-loop-word l = steps_of l.self-inside.expansion
