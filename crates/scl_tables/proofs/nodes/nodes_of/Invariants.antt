use Rattle.std.proofs.Common.{◌-◌, ◌^◌, map}
use Rattle.scl_values.specs.Row.{row_of}
use Rattle.scl_tables.proofs.TreeLemmas.{Built}
use Rattle.scl_tables.proofs.nodes.nodes_of.Given as goal

abbrev pub invariant-loop-index : goal.invariant-loop-index
invariant-loop-index g l = Built (map row_of l.rows) l.nodes.items l.index

abbrev pub decreases-loop-index : goal.decreases-loop-index
decreases-loop-index g l = 2 ^ 64 - l.index
