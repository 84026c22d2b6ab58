use Rattle.std.proofs.Common.{take}
use Rattle.scl_text.specs.Runs.{runs_of}
use Rattle.scl_description.specs.Rows.{entry_rows}
use Rattle.scl_description.specs.Takers.{Adds}
use Rattle.scl_describe.specs.Descriptions.{runs_entry}
use Rattle.scl_describe.proofs.described.tell_runs.Given as goal

abbrev pub invariant-loop-run : goal.invariant-loop-run
invariant-loop-run g l = Adds g.R.TakesRows.has l.initial.rows l.rows (entry_rows (runs_entry (runs_of (take l.run-index l.runs))))
