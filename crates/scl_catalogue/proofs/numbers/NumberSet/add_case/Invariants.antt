use Rattle.std.proofs.Common.{◌≡◌, map, drop}
use Rattle.scl_catalogue.specs.Numbered.{with_conditions}
use Rattle.scl_catalogue.specs.Views.{condition_of}
use Rattle.scl_catalogue.proofs.numbers.NumberSet.add_case.Given as goal

abbrev pub invariant-loop-condition : goal.invariant-loop-condition
invariant-loop-condition l = with_conditions l.self (map condition_of (drop l.condition-index l.case.conditions.items)) ≡ with_conditions l.initial.self (map condition_of l.case.conditions.items)
