use Rattle.std.proofs.Common.{take}
use Rattle.scl_description.specs.Rows.{rows_of}
use Rattle.scl_description.specs.Takers.{Adds}
use Rattle.scl_describe.specs.EffectRows.{effect_entries}
use Rattle.scl_describe.proofs.described.tell_effects.Given as goal

abbrev pub invariant-loop-effect : goal.invariant-loop-effect
invariant-loop-effect g l = Adds g.R.TakesRows.has l.initial.rows l.rows (rows_of (effect_entries (take l.effect-index l.effects)))
