use Rattle.std.proofs.Common.{take}
use Rattle.scl_text.specs.Commands.{pairs_of}
use Rattle.scl_description.specs.Rows.{entry_rows}
use Rattle.scl_description.specs.Takers.{Adds}
use Rattle.scl_describe.specs.Descriptions.{environment_entry}
use Rattle.scl_describe.proofs.described.tell_environment.Given as goal

abbrev pub invariant-loop-key : goal.invariant-loop-key
invariant-loop-key g l = Adds g.R.TakesRows.has l.initial.rows l.rows (entry_rows (environment_entry (pairs_of (take l.key-index l.pairs))))
