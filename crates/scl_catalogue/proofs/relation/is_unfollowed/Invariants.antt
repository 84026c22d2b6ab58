use Rattle.std.proofs.Common.{◌≡◌, ◌&&◌, ◌||◌, not, map, drop}
use Rattle.scl_catalogue.specs.Found.{first_is, in_group, is_unfollowed}
use Rattle.scl_catalogue.specs.Views.{group_of, seen_of}
use Rattle.scl_catalogue.proofs.relation.is_unfollowed.Given as goal

abbrev pub invariant-loop-option : goal.invariant-loop-option
invariant-loop-option l =
    let left = map seen_of (drop l.option-index l.options) in
    let p = in_group (group_of l.first) in
    let q = in_group (group_of l.second) in
    ((l.is_open && not (first_is q left)) || is_unfollowed p q left) ≡ is_unfollowed p q (map seen_of l.options)
