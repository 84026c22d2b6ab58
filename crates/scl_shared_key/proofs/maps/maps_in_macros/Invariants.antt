use Rattle.std.proofs.Common.{◌≡◌, drop}
use Rattle.scl_shared_key.specs.Maps.{maps_in_macros}
use Rattle.scl_shared_key.specs.MapViews.{maps_of}
use Rattle.scl_shared_key.proofs.maps.maps_in_macros.Given as goal

abbrev pub invariant-loop-one : goal.invariant-loop-one
invariant-loop-one l = maps_in_macros (maps_of (drop l.one-index l.maps)) l.dir ≡ maps_in_macros (maps_of l.maps) l.dir
