use Rattle.std.proofs.Common.{take, map}
use Rattle.scl_description.specs.Rows.{rows_of}
use Rattle.scl_description.specs.Takers.{Adds}
use Rattle.scl_key.specs.Views.{no_keys_of}
use Rattle.scl_key.specs.Keys.{no_key_entry}
use Rattle.scl_key.proofs.no_key.tell_no_rows.Given as goal

abbrev pub invariant-loop-one : goal.invariant-loop-one
invariant-loop-one g l = Adds g.R.TakesRows.has l.initial.rows l.rows (rows_of (map no_key_entry (no_keys_of (take l.one-index l.why))))
