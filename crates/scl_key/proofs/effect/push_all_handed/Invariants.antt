use Rattle.std.proofs.Common.{◌≡◌, ◌++◌, take, map}
use Rattle.std.specs.List.{flat_map}
use Rattle.scl_values.specs.Words.{words_of}
use Rattle.scl_key.specs.Effects.{handed_words}
use Rattle.scl_key.proofs.effect.push_all_handed.Given as goal

abbrev pub invariant-loop-word : goal.invariant-loop-word
invariant-loop-word l = map (λ v. v.now) l.found.items ≡ map (λ v. v.now) l.initial.found.items ++ flat_map handed_words (words_of (take l.word-index l.words))
