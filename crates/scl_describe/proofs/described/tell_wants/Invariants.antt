use Rattle.std.proofs.Common.{take}
use Rattle.scl_values.specs.Words.{words_of}
use Rattle.scl_description.specs.Rows.{entry_rows}
use Rattle.scl_description.specs.Takers.{Adds}
use Rattle.scl_describe.specs.Descriptions.{wants_entry}
use Rattle.scl_describe.proofs.described.tell_wants.Given as goal

abbrev pub invariant-loop-path : goal.invariant-loop-path
invariant-loop-path g l = Adds g.R.TakesRows.has l.initial.rows l.rows (entry_rows (wants_entry l.kind (words_of (take l.path-index l.paths))))
