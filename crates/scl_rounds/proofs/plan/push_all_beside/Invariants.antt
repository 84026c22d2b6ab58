use Rattle.std.proofs.Common.{◌≡◌, ◌++◌, take}
use Rattle.std.specs.List.{flat_map}
use Rattle.scl_values.specs.Words.{words_of}
use Rattle.scl_rounds.specs.Plans.{beside_in}
use Rattle.scl_rounds.specs.Views.{key_of}
use Rattle.scl_rounds.proofs.plan.push_all_beside.Given as goal

abbrev pub invariant-loop-word : goal.invariant-loop-word
invariant-loop-word l = words_of l.names.items ≡ words_of l.initial.names.items ++ flat_map (beside_in (key_of l.key)) (words_of (take l.word-index l.word-items))
