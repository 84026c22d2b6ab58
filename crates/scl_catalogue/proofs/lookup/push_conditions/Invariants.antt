use Rattle.std.proofs.Common.{◌≡◌, ◌++◌, map, take}
use Rattle.std.specs.List.{flat_map}
use Rattle.scl_catalogue.specs.Lookup.{flagged_condition}
use Rattle.scl_catalogue.specs.Views.{condition_of, flagged_of}
use Rattle.scl_catalogue.proofs.lookup.push_conditions.Given as goal

abbrev pub invariant-loop-condition : goal.invariant-loop-condition
invariant-loop-condition l = map flagged_of l.flagged.items ≡ map flagged_of l.initial.flagged.items ++ flat_map (flagged_condition l.brings) (map condition_of (take l.condition-index l.conditions))
