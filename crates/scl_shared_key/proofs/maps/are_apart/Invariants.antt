use Rattle.std.proofs.Common.{◌≡◌, drop}
use Rattle.std.specs.List.{list_any}
use Rattle.scl_values.specs.Words.{words_of}
use Rattle.scl_shared_key.specs.Maps.{begins_with_other}
use Rattle.scl_shared_key.proofs.maps.are_apart.Given as goal

abbrev pub invariant-loop-dir : goal.invariant-loop-dir
invariant-loop-dir l = list_any (begins_with_other (words_of l.dirs)) (words_of (drop l.dir-index l.dirs)) ≡ list_any (begins_with_other (words_of l.dirs)) (words_of l.dirs)
