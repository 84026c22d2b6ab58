use Rattle.std.proofs.Common.{ℕ, ◌+◌, ◌-◌, ◌<◌, ◌≤◌, slice_index_or}
use Rattle.scl_tables.specs.declared.nodes.Node.{Node}
use Rattle.scl_tables.specs.Probes.{bits}
use Rattle.scl_tables.proofs.tree.child_for.Given as goal

abbrev pub invariant-loop-low : goal.invariant-loop-low
invariant-loop-low l =
    (l.parent.first_child ≤ l.low) × (l.high ≤ l.parent.end_child)
    × ((i : ℕ) (other : Node) → l.parent.first_child ≤ i → i < l.low → (slice_index_or l.nodes i other).byte < l.byte)
    × ((i : ℕ) (other : Node) → l.high ≤ i → i < l.parent.end_child → l.byte < (slice_index_or l.nodes i other).byte)
    × (l.initial.probes ≤ l.probes) × (l.probes + bits (l.high - l.low) ≤ l.initial.probes + bits (l.parent.end_child - l.parent.first_child))

abbrev pub decreases-loop-low : goal.decreases-loop-low
decreases-loop-low l = l.high - l.low
