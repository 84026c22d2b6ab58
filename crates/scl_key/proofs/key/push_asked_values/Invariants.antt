use Rattle.std.proofs.Common.{◌≡◌, ◌++◌, take, map}
use Rattle.scl_key.specs.Views.{parts_of}
use Rattle.scl_key.specs.Keys.{asked_each}
use Rattle.scl_key.proofs.key.push_asked_values.Given as goal

abbrev pub invariant-loop-value : goal.invariant-loop-value
invariant-loop-value l = parts_of l.parts.items ≡ parts_of l.initial.parts.items ++ asked_each l.ask (map (λ v. v.now) (take l.value-index l.values))
