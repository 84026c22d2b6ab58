use Rattle.std.proofs.Common.{◌+◌, ◌-◌, ◌*◌, ◌≤◌, length, map}
use Rattle.scl_values.specs.Row.{row_at}
use Rattle.scl_tables.specs.Probes.{bits, Rises}
use Rattle.scl_tables.specs.Trees.{group_of, Lies, IsNode}
use Rattle.scl_tables.proofs.DescentLemmas.{Behind}
use Rattle.scl_tables.proofs.tree.deepest_fit.Given as goal

abbrev pub invariant-loop-node : goal.invariant-loop-node
invariant-loop-node g l =
    IsNode l.rows (map group_of l.nodes) l.node × Lies l.rows l.node × (l.probes ≤ l.fn.probes + (l.node.depth + 1) * (bits (length l.rows) + 1)) × Behind l.rows l.nodes l.word l.node (row_at l.found)
    × Rises l.fn.probes l.probes × (l.fn.probes ≤ l.probes) × (l.probes ≤ l.fn.probes + (length l.word + 1) * (bits (length l.rows) + 1))

abbrev pub decreases-loop-node : goal.decreases-loop-node
decreases-loop-node g l = length l.word - l.node.depth
