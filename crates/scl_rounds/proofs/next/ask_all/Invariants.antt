use Rattle.std.proofs.Common.{◌≡◌}
use Rattle.scl_questions.specs.Rounds.{joined}
use Rattle.scl_questions.specs.Views.{questions_of}
use Rattle.scl_rounds.proofs.next.ask_all.Given as goal

abbrev pub invariant-loop-question : goal.invariant-loop-question
invariant-loop-question l = questions_of l.asked.items ≡ joined (questions_of l.initial.asked.items) (questions_of l.yielded)
