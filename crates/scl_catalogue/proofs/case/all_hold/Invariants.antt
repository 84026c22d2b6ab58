use Rattle.std.proofs.Common.{◌≡◌, map, drop}
use Rattle.std.specs.List.{list_all}
use Rattle.scl_catalogue.specs.Found.{condition_holds}
use Rattle.scl_catalogue.specs.Views.{condition_of, line_of}
use Rattle.scl_catalogue.proofs.case.all_hold.Given as goal

abbrev pub invariant-loop-condition : goal.invariant-loop-condition
invariant-loop-condition l =
    let p = condition_holds (line_of l.line) in
    list_all p (map condition_of (drop l.condition-index l.conditions)) ≡ list_all p (map condition_of l.conditions)
