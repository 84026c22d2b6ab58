use Rattle.std.proofs.Common.{◌≡◌, ◌++◌, take}
use Rattle.std.specs.List.{flat_map}
use Rattle.scl_key.specs.Views.{parts_of}
use Rattle.scl_questions.specs.Views.{questions_of}
use Rattle.scl_rounds.specs.Rounds.{asked_in}
use Rattle.scl_rounds.specs.Views.{key_in, machine_of}
use Rattle.scl_rounds.proofs.question.push_asked_in.Given as goal

abbrev pub invariant-loop-part : goal.invariant-loop-part
invariant-loop-part l =
    questions_of l.questions.items ≡ questions_of l.initial.questions.items ++ flat_map (asked_in (key_in l.told) l.phase (machine_of l.told)) (parts_of (take l.part-index l.told.key.now.parts.now))
