use Rattle.std.proofs.Common.{take}
use Rattle.scl_description.specs.Rows.{rows_of}
use Rattle.scl_description.specs.Takers.{Adds}
use Rattle.scl_key.specs.Parts.{key_entries}
use Rattle.scl_key.specs.Views.{parts_of}
use Rattle.scl_key.proofs.part.tell_key.Given as goal

abbrev pub invariant-loop-part : goal.invariant-loop-part
invariant-loop-part g l = Adds g.R.TakesRows.has l.initial.rows l.rows (rows_of (key_entries (parts_of (take l.part-index l.key))))
