use Rattle.std.proofs.Common.{◌≡◌, map, drop}
use Rattle.std.specs.List.{list_any}
use Rattle.scl_catalogue.specs.Speaking.{asks_for}
use Rattle.scl_catalogue.specs.Views.{condition_of, seen_of}
use Rattle.scl_catalogue.proofs.speaking.one_asks_for.Given as goal

abbrev pub invariant-loop-condition : goal.invariant-loop-condition
invariant-loop-condition l =
    let p = asks_for l.level (seen_of l.option) in
    list_any p (map condition_of (drop l.condition-index l.conditions)) ≡ list_any p (map condition_of l.conditions)
