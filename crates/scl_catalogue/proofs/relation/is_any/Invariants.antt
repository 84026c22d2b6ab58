use Rattle.std.proofs.Common.{◌≡◌, map, drop}
use Rattle.std.specs.List.{list_any}
use Rattle.scl_catalogue.specs.Found.{in_group}
use Rattle.scl_catalogue.specs.Views.{group_of, seen_of}
use Rattle.scl_catalogue.proofs.relation.is_any.Given as goal

abbrev pub invariant-loop-option : goal.invariant-loop-option
invariant-loop-option l =
    let p = in_group (group_of l.group) in
    list_any p (map seen_of (drop l.option-index l.options)) ≡ list_any p (map seen_of l.options)
