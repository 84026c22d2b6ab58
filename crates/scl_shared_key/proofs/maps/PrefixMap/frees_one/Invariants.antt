use Rattle.std.proofs.Common.{◌≡◌, drop}
use Rattle.std.specs.List.{list_any}
use Rattle.scl_values.specs.Words.{words_of}
use Rattle.scl_shared_key.specs.Maps.{frees_dir}
use Rattle.scl_shared_key.specs.MapViews.{map_of}
use Rattle.scl_shared_key.proofs.maps.PrefixMap.frees_one.Given as goal

abbrev pub invariant-loop-dir : goal.invariant-loop-dir
invariant-loop-dir l = list_any (frees_dir (words_of l.dirs) (map_of l.self)) (words_of (drop l.dir-index l.dirs)) ≡ list_any (frees_dir (words_of l.dirs) (map_of l.self)) (words_of l.dirs)
