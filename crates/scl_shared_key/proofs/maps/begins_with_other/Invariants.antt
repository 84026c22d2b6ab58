use Rattle.std.proofs.Common.{◌≡◌, drop}
use Rattle.scl_values.specs.Words.{words_of}
use Rattle.scl_shared_key.specs.Maps.{begins_with_other}
use Rattle.scl_shared_key.proofs.maps.begins_with_other.Given as goal

abbrev pub invariant-loop-other : goal.invariant-loop-other
invariant-loop-other l = begins_with_other (words_of (drop l.other-index l.dirs)) l.dir ≡ begins_with_other (words_of l.dirs) l.dir
