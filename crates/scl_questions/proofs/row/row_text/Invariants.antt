use Rattle.std.proofs.Common.{◌≡◌, ◌++◌, drop, map}
use Rattle.scl_lookup.specs.Framing.{framed}
use Rattle.scl_lookup.specs.Keys.{field_text, row_text}
use Rattle.scl_questions.specs.Views.{row_of}
use Rattle.scl_questions.proofs.row.row_text.Given as goal

abbrev pub invariant-loop-field : goal.invariant-loop-field
invariant-loop-field l = l.text.items ++ row_text (row_of (drop l.field-index l.row)) ≡ row_text (row_of l.row)
