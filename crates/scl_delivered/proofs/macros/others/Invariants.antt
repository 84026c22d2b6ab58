use Rattle.std.proofs.Common.{◌≡◌, ◌++◌}
use Rattle.scl_values.specs.Words.{words_of}
use Rattle.scl_delivered.specs.Macros.{others}
use Rattle.scl_delivered.proofs.macros.others.Given as goal

abbrev pub invariant-loop-word : goal.invariant-loop-word
invariant-loop-word l = words_of l.left.items ++ others (words_of l.word-iterator.rest.items) ≡ others (words_of l.fn.words.items)
