use Rattle.std.proofs.Common.{◌≡◌, ◌++◌, take, map}
use Rattle.scl_values.specs.Words.{words_of}
use Rattle.scl_lookup.specs.Questions.{env}
use Rattle.scl_questions.specs.Views.{questions_of}
use Rattle.scl_rounds.proofs.question.push_envs.Given as goal

abbrev pub invariant-loop-name : goal.invariant-loop-name
invariant-loop-name l = questions_of l.questions.items ≡ questions_of l.initial.questions.items ++ map env (words_of (take l.name-index l.names))
