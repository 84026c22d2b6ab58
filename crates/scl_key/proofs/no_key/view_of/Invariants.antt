use Rattle.std.proofs.Common.{◌≡◌, ◌++◌, List, drop, length}
use Rattle.scl_key.specs.Views.{paths_of}
use Rattle.scl_key.specs.Keys.{view_of}
use Rattle.scl_key.specs.declared.part.Output.{Output}
use Rattle.scl_key.proofs.no_key.view_of.Given as goal

abbrev pub invariant-loop-output : goal.invariant-loop-output
invariant-loop-output l =
    let later : List Output = drop (length l.left) l.outputs in
    (l.left ++ later ≡ l.outputs) × (l.view ≡ view_of (paths_of later))

abbrev pub decreases-loop-output : goal.decreases-loop-output
decreases-loop-output l = length l.left
