use Rattle.std.proofs.Common.{◌≡◌, drop}
use Rattle.scl_values.specs.Words.{words_of}
use Rattle.scl_shared_key.specs.Maps.{all_free}
use Rattle.scl_shared_key.specs.MapViews.{maps_of}
use Rattle.scl_shared_key.proofs.maps.all_free.Given as goal

abbrev pub invariant-loop-one : goal.invariant-loop-one
invariant-loop-one l = all_free (words_of l.dirs) (maps_of (drop l.one-index l.maps)) ≡ all_free (words_of l.dirs) (maps_of l.maps)
