use Rattle.std.proofs.Common.{◌-◌, map}
use Rattle.scl_values.specs.Row.{row_of}
use Rattle.scl_tables.proofs.TreeLemmas.{Growing}
use Rattle.scl_tables.proofs.nodes.grown.Given as goal

abbrev pub invariant-loop-next : goal.invariant-loop-next
invariant-loop-next g l = Growing (map row_of l.rows) l.initial.nodes.items l.nodes.items l.node.depth l.first l.next l.node.end_row

abbrev pub decreases-loop-next : goal.decreases-loop-next
decreases-loop-next g l = l.node.end_row - l.next
