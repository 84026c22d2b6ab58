use Rattle.std.proofs.Common.{◌≡◌, drop, find, not}
use Rattle.scl_gnu.specs.Runs.{arch_outputs, succeeded}
use Rattle.scl_gnu.proofs.gcc.runs.first_failed.Given as goal

abbrev pub invariant-loop-run : goal.invariant-loop-run
invariant-loop-run l = find (λ p. not (succeeded p)) (arch_outputs (drop l.run-index l.runs)) ≡ find (λ p. not (succeeded p)) (arch_outputs l.runs)
