use Rattle.std.proofs.Common.{take}
use Rattle.scl_description.specs.Rows.{entry_rows}
use Rattle.scl_description.specs.Takers.{Adds}
use Rattle.scl_report.specs.Objects.{dangers_entry}
use Rattle.scl_report.proofs.json.tell_dangers.Given as goal

abbrev pub invariant-loop-hazard : goal.invariant-loop-hazard
invariant-loop-hazard g l = Adds g.R.TakesRows.has l.initial.rows l.rows (entry_rows (dangers_entry (take l.hazard-index l.hazards)))
