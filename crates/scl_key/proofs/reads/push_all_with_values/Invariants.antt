use Rattle.std.proofs.Common.{◌≡◌, ◌++◌, take, map}
use Rattle.std.specs.List.{flat_map}
use Rattle.scl_key.specs.Reads.{with_values}
use Rattle.scl_key.proofs.reads.push_all_with_values.Given as goal

abbrev pub invariant-loop-text : goal.invariant-loop-text
invariant-loop-text l = map (λ v. v.now) l.values.items ≡ map (λ v. v.now) l.initial.values.items ++ flat_map with_values (map (λ v. v.now) (take l.text-index l.texts))
