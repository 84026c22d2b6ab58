use Rattle.std.proofs.Common.{◌≡◌, ◌++◌, take}
use Rattle.scl_values.specs.Words.{words_of}
use Rattle.scl_msvc.specs.Depfile.{ended_by}
use Rattle.scl_msvc.proofs.msvc.depfile.push_ended.Given as goal

abbrev pub invariant-loop-word : goal.invariant-loop-word
invariant-loop-word l = l.text.items ≡ l.fn.text.items ++ ended_by l.end (words_of (take l.word-index l.words))
