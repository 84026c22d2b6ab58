use Rattle.std.proofs.Common.{◌≡◌, ◌++◌, drop}
use Rattle.scl_gnu.specs.Runs.{arch_outputs, errors}
use Rattle.scl_gnu.proofs.gcc.runs.errors.Given as goal

abbrev pub invariant-loop-output : goal.invariant-loop-output
invariant-loop-output l = l.made.items ++ errors (arch_outputs (drop l.output-index l.runs)) ≡ errors (arch_outputs l.runs)
