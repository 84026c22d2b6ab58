use Rattle.std.proofs.Common.{◌≡◌, take}
use Rattle.scl_key.specs.Doings.{barred}
use Rattle.scl_key.specs.Views.{no_keys_of}
use Rattle.scl_key.proofs.doings.barred.Given as goal

abbrev pub invariant-loop-effect : goal.invariant-loop-effect
invariant-loop-effect l = no_keys_of l.why.items ≡ barred (take l.effect-index l.effects)
