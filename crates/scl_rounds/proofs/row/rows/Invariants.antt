use Rattle.std.proofs.Common.{◌≡◌, ◌++◌, drop, map}
use Rattle.std.specs.Option.{option_map}
use Rattle.scl_key.specs.Views.{parts_of}
use Rattle.scl_lookup.specs.Keys.{all_there}
use Rattle.scl_questions.specs.Views.{rows_of}
use Rattle.scl_rounds.specs.Answers.{row_on, rows_on}
use Rattle.scl_rounds.specs.Views.{key_in, machine_of}
use Rattle.scl_rounds.proofs.row.rows.Given as goal

abbrev pub invariant-loop-part : goal.invariant-loop-part
invariant-loop-part l =
    option_map (λ rest. rows_of l.rows.items ++ rest) (all_there (map (row_on (key_in l.told) (machine_of l.told)) (parts_of (drop l.part-index l.told.key.now.parts.now))))
    ≡ rows_on (key_in l.told) (machine_of l.told)
