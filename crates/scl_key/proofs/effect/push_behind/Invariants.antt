use Rattle.std.proofs.Common.{◌≡◌, ◌++◌, drop, map, false}
use Rattle.scl_values.specs.Words.{words_of}
use Rattle.scl_key.specs.Effects.{behind}
use Rattle.scl_key.proofs.effect.push_behind.Given as goal

abbrev pub invariant-loop-word : goal.invariant-loop-word
invariant-loop-word l = map (λ v. v.now) l.found.items ++ behind l.flag l.is_behind (words_of (drop l.word-index l.words)) ≡ map (λ v. v.now) l.fn.found.items ++ behind l.flag false (words_of l.words)
