use Rattle.std.proofs.Common.{◌≡◌, ◌++◌, map, take}
use Rattle.std.specs.List.{flat_map}
use Rattle.scl_catalogue.specs.Views.{entry_of, line_of, seen_of}
use Rattle.scl_effects.specs.Effects.{value_spoken}
use Rattle.scl_effects.proofs.told.push_values.Given as goal

abbrev pub invariant-loop-option : goal.invariant-loop-option
invariant-loop-option l =
    map (λ value. value.now) l.values.items
    ≡ map (λ value. value.now) l.initial.values.items ++ flat_map (value_spoken (line_of l.line) (entry_of l.entry) l.level) (map seen_of (take l.option-index l.options))
