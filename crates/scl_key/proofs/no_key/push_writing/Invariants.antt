use Rattle.std.proofs.Common.{◌≡◌, ◌++◌, take, map, filter}
use Rattle.scl_values.specs.Words.{words_of}
use Rattle.scl_key.specs.Effects.{writes_by_assembler}
use Rattle.scl_key.proofs.no_key.push_writing.Given as goal

abbrev pub invariant-loop-word : goal.invariant-loop-word
invariant-loop-word l = words_of l.unnamed.items ≡ words_of l.initial.unnamed.items ++ filter writes_by_assembler (map (λ v. v.now) (take l.word-index l.words))
