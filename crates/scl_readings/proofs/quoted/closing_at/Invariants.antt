use Rattle.std.proofs.Common.{◌≡◌, false, drop}
use Rattle.scl_readings.specs.Quoted.{closing_at}
use Rattle.scl_readings.proofs.quoted.closing_at.Given as goal

abbrev pub invariant-loop-at : goal.invariant-loop-at
invariant-loop-at l = closing_at l.at l.is_escaped (drop l.at l.text) ≡ closing_at 0 false l.text
