use Rattle.std.proofs.Common.{◌≡◌, drop}
use Rattle.std.specs.List.{list_any}
use Rattle.scl_values.specs.Words.{words_of}
use Rattle.scl_shared_key.specs.Maps.{begin_alike}
use Rattle.scl_shared_key.proofs.maps.begins_as_any.Given as goal

abbrev pub invariant-loop-dir : goal.invariant-loop-dir
invariant-loop-dir l = list_any (begin_alike l.name) (words_of (drop l.dir-index l.dirs)) ≡ list_any (begin_alike l.name) (words_of l.dirs)
