use Rattle.std.proofs.Common.{◌≡◌, ◌++◌, take, drop, map}
use Rattle.scl_values.specs.Words.{words_of}
use Rattle.scl_msvc.specs.Environment.{with_equals}
use Rattle.scl_msvc.proofs.msvc.environment.words_in.Given as goal

abbrev pub invariant-loop-word : goal.invariant-loop-word
invariant-loop-word l = words_of (take l.word-index l.word-items) ++ map with_equals (words_of (drop l.word-index l.word-items)) ≡ map with_equals (words_of l.initial.word-items)
