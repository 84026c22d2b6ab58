use Rattle.std.proofs.Common.{map}
use Rattle.std.specs.Map.Iter.{deref_pair}
use Rattle.scl_text.specs.Records.{artifact_of}
use Rattle.scl_description.specs.Rows.{entry_rows}
use Rattle.scl_description.specs.Records.{outputs_entry}
use Rattle.scl_description.specs.Takers.{Adds}
use Rattle.scl_description.proofs.record.tell_outputs.Given as goal

abbrev pub invariant-loop-name : goal.invariant-loop-name
invariant-loop-name g l = Adds g.R.TakesRows.has l.initial.rows l.rows (entry_rows (outputs_entry (map artifact_of (map deref_pair l.yielded))))
