use Rattle.std.proofs.Common.{◌≡◌, ◌++◌, drop}
use Rattle.scl_gnu.specs.Runs.{arch_outputs, sections}
use Rattle.scl_gnu.proofs.gcc.runs.sections.Given as goal

abbrev pub invariant-loop-arch : goal.invariant-loop-arch
invariant-loop-arch l = l.made.items ++ sections (arch_outputs (drop l.arch-index l.runs)) ≡ sections (arch_outputs l.runs)
