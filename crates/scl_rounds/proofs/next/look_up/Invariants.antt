use Rattle.std.proofs.Common.{◌≡◌, [], drop, map}
use Rattle.scl_questions.specs.Talks.{said}
use Rattle.scl_questions.specs.Views.{questions_of, replies_of}
use Rattle.scl_rounds.specs.Answers.{outcome_on}
use Rattle.scl_rounds.specs.Rounds.{rounds, stage}
use Rattle.scl_rounds.specs.Views.{key_of}
use Rattle.scl_rounds.proofs.next.look_up.Given as goal

abbrev pub invariant-loop-phase : goal.invariant-loop-phase
invariant-loop-phase l =
    said (outcome_on (key_of l.key)) (map (stage (key_of l.key)) (drop l.phase-index l.phase-items)) (questions_of l.asked.items) (replies_of l.answers)
    ≡ said (outcome_on (key_of l.key)) (rounds (key_of l.key)) [] (replies_of l.answers)
