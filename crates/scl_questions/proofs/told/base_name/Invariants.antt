use Rattle.std.proofs.Common.{◌≡◌, drop}
use Rattle.scl_questions.specs.Told.{base_name, last_part}
use Rattle.scl_questions.proofs.told.base_name.Given as goal

abbrev pub invariant-loop-at : goal.invariant-loop-at
invariant-loop-at l = last_part l.last (drop l.at l.path) ≡ base_name l.path
