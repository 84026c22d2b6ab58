use Rattle.std.proofs.Common.{◌≡◌, ◌++◌, take, filter}
use Rattle.scl_values.specs.Words.{words_of}
use Rattle.scl_key.specs.Keys.{hides_file}
use Rattle.scl_key.proofs.no_key.push_hiding.Given as goal

abbrev pub invariant-loop-word : goal.invariant-loop-word
invariant-loop-word l = words_of l.unnamed.items ≡ words_of l.initial.unnamed.items ++ filter hides_file (words_of (take l.word-index l.words))
