use Rattle.std.proofs.Common.{◌≡◌, drop}
use Rattle.std.specs.List.{list_any}
use Rattle.scl_values.specs.Words.{words_of}
use Rattle.scl_catalogue.specs.Lookup.{naming_of}
use Rattle.scl_catalogue.specs.Views.{lexicon_of}
use Rattle.scl_shared_key.specs.Namings.{is_debug_info}
use Rattle.scl_shared_key.proofs.object.some_make_debug_info.Given as goal

abbrev pub invariant-loop-word : goal.invariant-loop-word
invariant-loop-word l = list_any (λ word. is_debug_info (naming_of (lexicon_of l.lexicon) word)) (words_of (drop l.word-index l.words)) ≡ list_any (λ word. is_debug_info (naming_of (lexicon_of l.lexicon) word)) (words_of l.words)
