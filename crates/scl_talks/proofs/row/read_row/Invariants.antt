use Rattle.std.proofs.Common.{◌≡◌, length}
use Rattle.scl_description.specs.Rows.{row_of}
use Rattle.scl_values.specs.Words.{words_of}
use Rattle.scl_talks.proofs.RowLemmas.{behind_fields}
use Rattle.scl_talks.proofs.row.read_row.Given as goal

abbrev pub invariant-loop-part : goal.invariant-loop-part
invariant-loop-part l = behind_fields (words_of l.fields.items) (row_of l.left) ≡ row_of l.text

abbrev pub decreases-loop-part : goal.decreases-loop-part
decreases-loop-part l = length l.left
