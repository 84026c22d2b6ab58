use Rattle.std.proofs.Common.{◌≡◌}
use Rattle.scl_files.specs.Paths.{places_from, parent_from, parent}
use Rattle.scl_files.proofs.path.parent.Given as goal

abbrev pub invariant-loop-place : goal.invariant-loop-place
invariant-loop-place l = parent_from l.parent l.through (places_from l.place-iterator.path.now l.place-iterator.at) ≡ parent l.path
