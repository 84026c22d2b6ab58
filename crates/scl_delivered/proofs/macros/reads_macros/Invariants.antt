use Rattle.std.proofs.Common.{◌≡◌, drop}
use Rattle.scl_values.specs.Words.{words_of}
use Rattle.scl_delivered.specs.Macros.{reads_macros}
use Rattle.scl_delivered.proofs.macros.reads_macros.Given as goal

abbrev pub invariant-loop-word : goal.invariant-loop-word
invariant-loop-word l = reads_macros (words_of (drop l.word-index l.words)) ≡ reads_macros (words_of l.words)
