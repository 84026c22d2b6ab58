use Rattle.std.proofs.Common.{◌≡◌, ◌++◌, drop, false}
use Rattle.scl_values.specs.Words.{words_of}
use Rattle.scl_key.specs.Runs.{noted}
use Rattle.scl_key.proofs.runs.push_noted.Given as goal

abbrev pub invariant-loop-word : goal.invariant-loop-word
invariant-loop-word l = words_of l.list.items ++ noted l.is_behind (words_of (drop l.word-index l.words)) ≡ words_of l.fn.list.items ++ noted false (words_of l.words)
