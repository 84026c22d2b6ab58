use Rattle.std.proofs.Common.{◌≡◌, ℕ, ◌-◌, ◌<◌, ◌≤◌, map, slice_index, slice_index_or}
use Rattle.scl_values.specs.Row.{Row, row_of}
use Rattle.scl_tables.proofs.nodes.child_at.Given as goal

abbrev pub invariant-loop-end_row : goal.invariant-loop-end_row
invariant-loop-end_row g l =
    (l.first_row < l.end_row) × (l.end_row ≤ l.node.end_row)
    × ((k : ℕ) (other : Row g.row.K.Denot) → l.first_row ≤ k → k < l.end_row → slice_index (slice_index_or (map row_of l.rows) k other).flag l.node.depth ≡ l.byte)

abbrev pub decreases-loop-end_row : goal.decreases-loop-end_row
decreases-loop-end_row g l = l.node.end_row - l.end_row
