use Rattle.std.proofs.Common.{◌≡◌, ◌++◌, take}
use Rattle.scl_key.specs.Doings.{parts_told}
use Rattle.scl_key.specs.Views.{parts_of}
use Rattle.scl_key.proofs.doings.push_all_parts.Given as goal

abbrev pub invariant-loop-effect : goal.invariant-loop-effect
invariant-loop-effect l = parts_of l.parts.items ≡ parts_of l.initial.parts.items ++ parts_told l.outputs (take l.effect-index l.effects)
