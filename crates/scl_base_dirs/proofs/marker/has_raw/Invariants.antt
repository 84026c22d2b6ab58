use Rattle.std.proofs.Common.{◌≡◌, false, drop}
use Rattle.scl_base_dirs.specs.Markers.{has_raw_from}
use Rattle.scl_base_dirs.proofs.marker.has_raw.Given as goal

abbrev pub invariant-loop-byte : goal.invariant-loop-byte
invariant-loop-byte l = has_raw_from l.behind_r (drop l.byte-index l.text) ≡ has_raw_from false l.text
