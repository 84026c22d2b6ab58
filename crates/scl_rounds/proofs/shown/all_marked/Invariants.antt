use Rattle.std.proofs.Common.{◌≡◌, take, map}
use Rattle.std.specs.List.{flat_map}
use Rattle.scl_values.specs.Words.{words_of}
use Rattle.scl_rounds.specs.Runs.{marked_in}
use Rattle.scl_rounds.proofs.shown.all_marked.Given as goal

abbrev pub invariant-loop-text : goal.invariant-loop-text
invariant-loop-text l = words_of l.names.items ≡ flat_map marked_in (map (λ text. text.now) (take l.text-index l.texts))
