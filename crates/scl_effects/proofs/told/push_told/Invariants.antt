use Rattle.std.proofs.Common.{◌≡◌, ◌++◌, map, take}
use Rattle.scl_catalogue.specs.Views.{line_of}
use Rattle.scl_effects.specs.Effects.{effect_of}
use Rattle.scl_effects.proofs.told.push_told.Given as goal

abbrev pub invariant-loop-value : goal.invariant-loop-value
invariant-loop-value l =
    l.effects.items ≡ l.initial.effects.items ++ map (effect_of (line_of l.line) l.verb l.file.items) (map (λ value. value.now) (take l.value-index l.value-items))
