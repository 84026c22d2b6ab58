use Rattle.std.proofs.Common.{take}
use Rattle.scl_description.specs.Rows.{entry_rows}
use Rattle.scl_description.specs.Takers.{Adds}
use Rattle.scl_questions.specs.Views.{questions_of}
use Rattle.scl_talks.specs.Next.{asked_entry}
use Rattle.scl_talks.proofs.next.tell_questions.Given as goal

abbrev pub invariant-loop-question : goal.invariant-loop-question
invariant-loop-question g l = Adds g.R.TakesRows.has l.initial.rows l.rows (entry_rows (asked_entry (questions_of (take l.question-index l.questions))))
