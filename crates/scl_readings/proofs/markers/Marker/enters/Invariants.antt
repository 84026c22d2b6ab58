use Rattle.std.proofs.Common.{◌≡◌, length}
use Rattle.scl_readings.specs.Markers.{enters}
use Rattle.scl_readings.proofs.markers.Marker.enters.Given as goal

abbrev pub invariant-loop-flag : goal.invariant-loop-flag
invariant-loop-flag l = enters l.rest ≡ enters l.fn.self.flags.now

abbrev pub decreases-loop-flag : goal.decreases-loop-flag
decreases-loop-flag l = length l.rest
