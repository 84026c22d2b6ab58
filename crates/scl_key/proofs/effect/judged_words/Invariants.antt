use Rattle.std.proofs.Common.{◌≡◌, take}
use Rattle.scl_values.specs.Words.{words_of}
use Rattle.scl_catalogue.specs.Views.{lexicon_of}
use Rattle.scl_key.specs.Effects.{judged_in}
use Rattle.scl_key.specs.KnownViews.{all_judged}
use Rattle.scl_key.proofs.effect.judged_words.Given as goal

abbrev pub invariant-loop-word : goal.invariant-loop-word
invariant-loop-word l = all_judged l.found.items ≡ judged_in (lexicon_of l.lexicon) (words_of (take l.word-index l.words))
