use Rattle.std.proofs.Common.{arith, drop}
use Rattle.scl_tables.proofs.OrderLemmas.{common_end}
use Rattle.scl_tables.proofs.search.common_len.Goals as goal

pub returns-else-count-b : goal.returns-else-count-b
returns-else-count-b c = omega (arith, c.loop-count.invariant, common_end (drop c.loop-count.count c.args.a.now) c.args.b.now c.loop-count.count c.if-count-b.false)
