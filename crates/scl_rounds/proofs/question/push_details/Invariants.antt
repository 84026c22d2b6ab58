use Rattle.std.proofs.Common.{◌≡◌, ◌++◌, take}
use Rattle.scl_values.specs.Words.{words_of}
use Rattle.scl_questions.specs.Views.{questions_of}
use Rattle.scl_rounds.specs.Rounds.{details_asked}
use Rattle.scl_rounds.specs.Views.{machine_of}
use Rattle.scl_rounds.proofs.question.push_details.Given as goal

abbrev pub invariant-loop-path : goal.invariant-loop-path
invariant-loop-path l = questions_of l.questions.items ≡ questions_of l.initial.questions.items ++ details_asked l.detail (machine_of l.told) (words_of (take l.path-index l.paths))
