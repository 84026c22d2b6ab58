use Rattle.std.proofs.Common.{◌≡◌, ◌++◌, drop}
use Rattle.scl_lookup.specs.Keys.{text_of}
use Rattle.scl_questions.specs.Views.{rows_of}
use Rattle.scl_questions.proofs.row.push_text.Given as goal

abbrev pub invariant-loop-row : goal.invariant-loop-row
invariant-loop-row l = l.text.items ++ text_of (rows_of (drop l.row-index l.rows)) ≡ l.initial.text.items ++ text_of (rows_of l.rows)
