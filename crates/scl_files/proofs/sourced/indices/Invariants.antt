use Rattle.std.proofs.Common.{◌≡◌}
use Rattle.scl_files.specs.Sources.{indices}
use Rattle.scl_files.proofs.sourced.indices.Given as goal

abbrev pub invariant-loop-i : goal.invariant-loop-i
invariant-loop-i l = l.ats.items ≡ indices l.i
