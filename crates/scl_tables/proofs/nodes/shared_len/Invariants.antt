use Rattle.std.proofs.Common.{◌-◌, ◌≤◌, map}
use Rattle.scl_values.specs.Row.{row_of}
use Rattle.scl_tables.specs.Trees.{RiseBehind}
use Rattle.scl_tables.proofs.nodes.shared_len.Given as goal

abbrev pub invariant-loop-len : goal.invariant-loop-len
invariant-loop-len g l = (l.depth ≤ l.len) × RiseBehind (map row_of l.rows) l.len l.first_row l.end_row

abbrev pub decreases-loop-len : goal.decreases-loop-len
decreases-loop-len g l = l.first_len - l.len
