use Rattle.std.proofs.Common.{◌≡◌, map, drop}
use Rattle.std.specs.List.{list_all}
use Rattle.scl_catalogue.specs.Found.{is_met}
use Rattle.scl_catalogue.specs.Views.{demand_of, seen_of}
use Rattle.scl_catalogue.proofs.test.all_met.Given as goal

abbrev pub invariant-loop-demand : goal.invariant-loop-demand
invariant-loop-demand l =
    let p = is_met (seen_of l.option) in
    list_all p (map demand_of (drop l.demand-index l.demands)) ≡ list_all p (map demand_of l.demands)
