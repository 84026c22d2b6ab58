use Rattle.std.proofs.Common.{◌≡◌, ◌++◌, drop, None}
use Rattle.std.specs.Option.{option_map}
use Rattle.scl_values.specs.Words.{words_of}
use Rattle.scl_catalogue.specs.Views.{lexicon_of}
use Rattle.scl_key.specs.Given.{given_behind}
use Rattle.scl_key.specs.KnownViews.{all_given, given_of}
use Rattle.scl_key.proofs.given.given_in.Given as goal

abbrev pub invariant-loop-word : goal.invariant-loop-word
invariant-loop-word l =
    all_given l.given.items ++ given_behind (lexicon_of l.lexicon) (option_map given_of l.flag) (words_of (drop l.word-index l.words)) ≡ given_behind (lexicon_of l.lexicon) None (words_of l.words)
