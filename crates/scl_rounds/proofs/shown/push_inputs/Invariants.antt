use Rattle.std.proofs.Common.{◌≡◌, ◌++◌, drop}
use Rattle.std.specs.List.{filter_map}
use Rattle.scl_values.specs.Words.{words_of}
use Rattle.scl_key.specs.Views.{parts_of}
use Rattle.scl_rounds.specs.Shown.{input_of}
use Rattle.scl_rounds.proofs.shown.push_inputs.Given as goal

abbrev pub invariant-loop-part : goal.invariant-loop-part
invariant-loop-part l =
    words_of l.names.items ++ filter_map input_of (parts_of (drop l.part-index l.key.parts.now)) ≡ words_of l.initial.names.items ++ filter_map input_of (parts_of l.key.parts.now)
