use Rattle.std.proofs.Common.{◌≡◌, ◌++◌, map, length, reverse}
use Rattle.scl_key.specs.Views.{no_keys_of}
use Rattle.scl_key.specs.Keys.{no_key}
use Rattle.scl_key.proofs.no_key.push_from_the_end.Given as goal

abbrev pub invariant-loop-path : goal.invariant-loop-path
invariant-loop-path l = no_keys_of l.why.items ++ map (no_key l.reason) (reverse (map (λ v. v.now) l.left.items)) ≡ no_keys_of l.initial.why.items ++ map (no_key l.reason) (reverse (map (λ v. v.now) l.initial.left.items))

abbrev pub decreases-loop-path : goal.decreases-loop-path
decreases-loop-path l = length l.left.items
