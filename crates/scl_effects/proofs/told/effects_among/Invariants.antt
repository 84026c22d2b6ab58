use Rattle.std.proofs.Common.{◌≡◌, map, take}
use Rattle.scl_catalogue.specs.Views.{entry_of, line_of}
use Rattle.scl_effects.specs.Effects.{effects_among}
use Rattle.scl_effects.proofs.told.effects_among.Given as goal

abbrev pub invariant-loop-entry : goal.invariant-loop-entry
invariant-loop-entry l = l.effects.items ≡ effects_among (line_of l.line) (map (λ entry. entry_of entry.now) (take l.entry-index l.entries))
