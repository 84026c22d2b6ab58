use Rattle.std.proofs.Common.{◌≡◌, ◌++◌, take}
use Rattle.scl_values.specs.Words.{words_of}
use Rattle.scl_catalogue.specs.Views.{lexicon_of}
use Rattle.scl_shared_key.specs.Maps.{maps_among}
use Rattle.scl_shared_key.specs.MapViews.{maps_of}
use Rattle.scl_shared_key.proofs.maps.push_maps.Given as goal

abbrev pub invariant-loop-word : goal.invariant-loop-word
invariant-loop-word l = maps_of l.maps.items ≡ maps_of l.initial.maps.items ++ maps_among (lexicon_of l.lexicon) (words_of (take l.word-index l.words))
