use Rattle.std.proofs.Common.{◌≡◌, ◌++◌, take}
use Rattle.scl_values.specs.Words.{words_of}
use Rattle.scl_questions.specs.Views.{row_of}
use Rattle.scl_rounds.specs.Plans.{programs_told}
use Rattle.scl_rounds.specs.Views.{machine_of}
use Rattle.scl_rounds.proofs.plan.push_programs_told.Given as goal

abbrev pub invariant-loop-name : goal.invariant-loop-name
invariant-loop-name l = row_of l.answer.items ≡ row_of l.initial.answer.items ++ programs_told (machine_of l.told) (words_of (take l.name-index l.names))
