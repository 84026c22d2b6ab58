use Rattle.std.proofs.Common.{◌≡◌, drop, find, map}
use Rattle.scl_rows.specs.Rows.{told}
use Rattle.scl_report.specs.Nothing.{is_other_mode}
use Rattle.scl_report.proofs.nothing.why_nothing.Given as goal

abbrev pub invariant-loop-row : goal.invariant-loop-row
invariant-loop-row l = find is_other_mode (map told (drop l.row-index l.rows)) ≡ find is_other_mode (map told l.rows)
