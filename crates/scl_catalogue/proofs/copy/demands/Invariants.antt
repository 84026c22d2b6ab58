use Rattle.std.proofs.Common.{◌≡◌, map, take}
use Rattle.scl_catalogue.specs.Views.{demand_of}
use Rattle.scl_catalogue.proofs.copy.demands.Given as goal

abbrev pub invariant-loop-one : goal.invariant-loop-one
invariant-loop-one l = map demand_of l.copies.items ≡ map demand_of (take l.one-index l.all)
