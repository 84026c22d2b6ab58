use Rattle.std.proofs.Common.{◌≡◌, drop}
use Rattle.scl_shell.specs.Operators.{operator_at, operator_from}
use Rattle.scl_shell.proofs.operators.operator_at.Given as goal

abbrev pub invariant-loop-at : goal.invariant-loop-at
invariant-loop-at l = operator_from l.mode l.at (drop l.at l.text) ≡ operator_at l.text
