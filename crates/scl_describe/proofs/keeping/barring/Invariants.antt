use Rattle.std.proofs.Common.{◌≡◌, drop}
use Rattle.scl_describe.specs.Keepings.{barring}
use Rattle.scl_describe.proofs.keeping.barring.Given as goal

abbrev pub invariant-loop-hazard : goal.invariant-loop-hazard
invariant-loop-hazard l = barring (drop l.hazard-index l.hazards) ≡ barring l.hazards
