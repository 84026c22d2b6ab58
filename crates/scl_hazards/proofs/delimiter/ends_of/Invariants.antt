use Rattle.std.proofs.Common.{take}
use Rattle.scl_values.specs.Words.{words_of}
use Rattle.scl_hazards.specs.Options.{HasEnds}
use Rattle.scl_hazards.proofs.delimiter.ends_of.Given as goal

abbrev pub invariant-loop-word : goal.invariant-loop-word
invariant-loop-word l = HasEnds l.ends (words_of (take l.word-index l.words))
