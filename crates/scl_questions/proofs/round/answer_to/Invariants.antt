use Rattle.std.proofs.Common.{◌≡◌, drop}
use Rattle.scl_questions.specs.Answers.{reply_to}
use Rattle.scl_questions.specs.Views.{question_of, questions_of, replies_of}
use Rattle.scl_questions.proofs.round.answer_to.Given as goal

abbrev pub invariant-loop-other : goal.invariant-loop-other
invariant-loop-other l = reply_to (question_of l.question) (questions_of (drop l.other-index l.asked)) (replies_of l.rest) ≡ reply_to (question_of l.question) (questions_of l.asked) (replies_of l.fn.answers)
