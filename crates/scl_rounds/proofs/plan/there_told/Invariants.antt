use Rattle.std.proofs.Common.{◌≡◌, ◌++◌, drop}
use Rattle.std.specs.Option.{option_map}
use Rattle.scl_values.specs.Words.{words_of}
use Rattle.scl_questions.specs.Views.{row_of}
use Rattle.scl_rounds.specs.Plans.{there_told}
use Rattle.scl_rounds.specs.Views.{machine_of}
use Rattle.scl_rounds.proofs.plan.there_told.Given as goal

abbrev pub invariant-loop-name : goal.invariant-loop-name
invariant-loop-name l =
    option_map (λ rest. row_of l.answer.items ++ rest) (there_told (machine_of l.told) (words_of (drop l.name-index l.names))) ≡ there_told (machine_of l.told) (words_of l.names)
