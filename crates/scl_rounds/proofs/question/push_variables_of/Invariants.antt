use Rattle.std.proofs.Common.{◌≡◌, ◌++◌, drop, map}
use Rattle.std.specs.List.{flat_map}
use Rattle.scl_key.specs.Views.{directs_of}
use Rattle.scl_questions.specs.Views.{questions_of}
use Rattle.scl_lookup.specs.Questions.{env}
use Rattle.scl_rounds.specs.Keys.{variable_in, variables}
use Rattle.scl_rounds.specs.Views.{key_of}
use Rattle.scl_rounds.proofs.question.push_variables_of.Given as goal

abbrev pub invariant-loop-one : goal.invariant-loop-one
invariant-loop-one l =
    questions_of l.questions.items ++ map env (flat_map variable_in (directs_of (drop l.one-index l.key.direct.now)))
    ≡ questions_of l.initial.questions.items ++ map env (variables (key_of l.key))
