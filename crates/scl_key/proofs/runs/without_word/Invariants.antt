use Rattle.std.proofs.Common.{◌≡◌, take}
use Rattle.scl_values.specs.Words.{words_of}
use Rattle.scl_text.specs.Records.{without_word}
use Rattle.scl_key.proofs.runs.without_word.Given as goal

abbrev pub invariant-loop-other : goal.invariant-loop-other
invariant-loop-other l = words_of l.others.items ≡ without_word l.word (words_of (take l.other-index l.words))
