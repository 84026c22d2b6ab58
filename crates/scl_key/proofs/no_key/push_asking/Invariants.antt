use Rattle.std.proofs.Common.{◌≡◌, ◌++◌, take, map, filter}
use Rattle.scl_values.specs.Words.{words_of}
use Rattle.scl_key.specs.Keys.{asks_for_rules}
use Rattle.scl_key.proofs.no_key.push_asking.Given as goal

abbrev pub invariant-loop-word : goal.invariant-loop-word
invariant-loop-word l = words_of l.unnamed.items ≡ words_of l.initial.unnamed.items ++ filter asks_for_rules (map (λ v. v.now) (take l.word-index l.words))
