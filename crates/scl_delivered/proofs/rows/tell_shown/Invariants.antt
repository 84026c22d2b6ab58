use Rattle.std.proofs.Common.{take}
use Rattle.scl_values.specs.Words.{words_of}
use Rattle.scl_description.specs.Rows.{rows_of}
use Rattle.scl_description.specs.Takers.{Adds}
use Rattle.scl_delivered.specs.Rows.{shown_entries}
use Rattle.scl_delivered.proofs.rows.tell_shown.Given as goal

abbrev pub invariant-loop-word : goal.invariant-loop-word
invariant-loop-word g l = Adds g.R.TakesRows.has l.initial.rows l.rows (rows_of (shown_entries (words_of (take l.word-index l.words))))
