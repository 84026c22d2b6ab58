use Rattle.std.proofs.Common.{◌≡◌, ◌++◌, List, map, drop, length, reverse}
use Rattle.scl_key.specs.Views.{paths_of}
use Rattle.scl_key.specs.Keys.{repeated, view_of}
use Rattle.scl_key.specs.declared.part.Output.{Output}
use Rattle.scl_key.proofs.no_key.repeated_from_the_end.Given as goal

abbrev pub invariant-loop-output : goal.invariant-loop-output
invariant-loop-output l =
    let later : List Output = drop (length l.left) l.outputs in
    (l.left ++ later ≡ l.outputs)
    × ((l.later ≡ view_of (paths_of later))
    × (reverse (map (λ v. v.now) l.found.items) ≡ repeated (paths_of later)))

abbrev pub decreases-loop-output : goal.decreases-loop-output
decreases-loop-output l = length l.left
