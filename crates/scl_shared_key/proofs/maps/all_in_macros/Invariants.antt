use Rattle.std.proofs.Common.{◌≡◌, drop}
use Rattle.std.specs.List.{list_all}
use Rattle.scl_values.specs.Words.{words_of}
use Rattle.scl_shared_key.specs.Maps.{maps_in_macros}
use Rattle.scl_shared_key.specs.MapViews.{maps_of}
use Rattle.scl_shared_key.proofs.maps.all_in_macros.Given as goal

abbrev pub invariant-loop-dir : goal.invariant-loop-dir
invariant-loop-dir l = list_all (maps_in_macros (maps_of l.maps)) (words_of (drop l.dir-index l.dirs)) ≡ list_all (maps_in_macros (maps_of l.maps)) (words_of l.dirs)
