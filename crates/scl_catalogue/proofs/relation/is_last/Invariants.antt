use Rattle.std.proofs.Common.{◌≡◌, ◌&&◌, ◌||◌, not, map, drop}
use Rattle.std.specs.List.{list_any}
use Rattle.scl_catalogue.specs.Found.{in_group, is_last}
use Rattle.scl_catalogue.specs.Views.{group_of, seen_of}
use Rattle.scl_catalogue.proofs.relation.is_last.Given as goal

abbrev pub invariant-loop-option : goal.invariant-loop-option
invariant-loop-option l =
    let left = map seen_of (drop l.option-index l.options) in
    let p = in_group (group_of l.first) in
    let q = in_group (group_of l.second) in
    ((l.is_first && not (list_any (λ other. q other && not (p other)) left)) || is_last p q left) ≡ is_last p q (map seen_of l.options)
