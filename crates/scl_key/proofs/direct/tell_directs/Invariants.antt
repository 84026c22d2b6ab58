use Rattle.std.proofs.Common.{take}
use Rattle.scl_description.specs.Rows.{rows_of}
use Rattle.scl_description.specs.Takers.{Adds}
use Rattle.scl_key.specs.Directs.{direct_entries}
use Rattle.scl_key.specs.Views.{directs_of}
use Rattle.scl_key.proofs.direct.tell_directs.Given as goal

abbrev pub invariant-loop-one : goal.invariant-loop-one
invariant-loop-one g l = Adds g.R.TakesRows.has l.initial.rows l.rows (rows_of (direct_entries (directs_of (take l.one-index l.direct))))
