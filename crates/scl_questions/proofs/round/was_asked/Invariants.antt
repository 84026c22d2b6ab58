use Rattle.std.proofs.Common.{◌≡◌, drop}
use Rattle.scl_questions.specs.Rounds.{was_asked}
use Rattle.scl_questions.specs.Views.{question_of, questions_of}
use Rattle.scl_questions.proofs.round.was_asked.Given as goal

abbrev pub invariant-loop-other : goal.invariant-loop-other
invariant-loop-other l = was_asked (question_of l.question) (questions_of (drop l.other-index l.asked)) ≡ was_asked (question_of l.question) (questions_of l.asked)
