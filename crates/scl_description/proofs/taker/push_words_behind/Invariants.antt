use Rattle.std.proofs.Common.{◌≡◌, ◌++◌, take}
use Rattle.scl_values.specs.Words.{words_of}
use Rattle.scl_description.specs.Rows.{fields_behind}
use Rattle.scl_description.proofs.taker.push_words_behind.Given as goal

abbrev pub invariant-loop-word : goal.invariant-loop-word
invariant-loop-word l = l.text.items ≡ l.initial.text.items ++ fields_behind (words_of (take l.word-index l.words))
