use Rattle.std.proofs.Common.{◌≡◌, drop, is_some, map}
use Rattle.std.specs.List.{list_any}
use Rattle.scl_readings.specs.Markers.{marker_of}
use Rattle.scl_rounds.specs.Runs.{has_marker}
use Rattle.scl_rounds.proofs.run.has_marker.Given as goal

abbrev pub invariant-loop-directive : goal.invariant-loop-directive
invariant-loop-directive l = list_any (λ directive. is_some (marker_of directive)) (map (λ directive. directive.now) (drop l.directive-index l.directive-items)) ≡ has_marker l.fn.text
