use Rattle.std.proofs.Common.{◌≡◌, ◌++◌, drop, map}
use Rattle.std.specs.List.{filter_map}
use Rattle.scl_values.specs.Words.{words_of}
use Rattle.scl_rounds.specs.Shown.{content_at}
use Rattle.scl_rounds.specs.Views.{machine_of}
use Rattle.scl_rounds.proofs.shown.push_contents.Given as goal

abbrev pub invariant-loop-name : goal.invariant-loop-name
invariant-loop-name l =
    map (λ text. text.now) l.texts.items ++ filter_map (content_at (machine_of l.told)) (words_of (drop l.name-index l.names))
    ≡ map (λ text. text.now) l.initial.texts.items ++ filter_map (content_at (machine_of l.told)) (words_of l.names)
