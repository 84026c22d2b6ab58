use Rattle.std.proofs.Common.{◌≡◌, take}
use Rattle.scl_values.specs.Words.{words_of}
use Rattle.scl_shared_key.specs.Fields.{told_row}
use Rattle.scl_delivered.proofs.told.told_words.Given as goal

abbrev pub invariant-loop-word : goal.invariant-loop-word
invariant-loop-word l = words_of l.told.items ≡ told_row (words_of l.dirs) (words_of (take l.word-index l.words))
