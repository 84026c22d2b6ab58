use Rattle.std.proofs.Common.{◌≡◌, ◌+◌, ◌-◌, length, drop, nat_eq}
use Rattle.std.specs.List.{common_prefix_len}
use Rattle.scl_tables.proofs.search.common_len.Given as goal

abbrev pub invariant-loop-count : goal.invariant-loop-count
invariant-loop-count l = common_prefix_len nat_eq l.a l.b ≡ l.count + common_prefix_len nat_eq (drop l.count l.a) (drop l.count l.b)

abbrev pub decreases-loop-count : goal.decreases-loop-count
decreases-loop-count l = length l.a - l.count
