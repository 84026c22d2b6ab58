use Rattle.std.proofs.Common.{◌≡◌, drop}
use Rattle.scl_questions.specs.Rounds.{misfit}
use Rattle.scl_questions.specs.Views.{questions_of, replies_of}
use Rattle.scl_questions.proofs.round.misfit.Given as goal

abbrev pub invariant-loop-at : goal.invariant-loop-at
invariant-loop-at l = misfit l.at (questions_of (drop l.at l.asked)) (replies_of l.rest) ≡ misfit 0 (questions_of l.asked) (replies_of l.fn.answers)
