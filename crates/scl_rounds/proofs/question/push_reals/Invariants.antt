use Rattle.std.proofs.Common.{◌≡◌, ◌++◌, take, map}
use Rattle.scl_values.specs.Words.{words_of}
use Rattle.scl_lookup.specs.Questions.{real}
use Rattle.scl_questions.specs.Views.{questions_of}
use Rattle.scl_rounds.proofs.question.push_reals.Given as goal

abbrev pub invariant-loop-path : goal.invariant-loop-path
invariant-loop-path l = questions_of l.questions.items ≡ questions_of l.initial.questions.items ++ map real (words_of (take l.path-index l.paths))
