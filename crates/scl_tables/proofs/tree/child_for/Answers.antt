use Rattle.std.proofs.Common.{◌-◌, arith}
use Rattle.scl_tables.proofs.BitsLemmas.{bits_half}
use Rattle.scl_tables.proofs.TreeLemmas.{order_is, halved, less_to, greater_from}
use Rattle.scl_tables.proofs.tree.child_for.Goals as goal

pub loop-low-preserved-in-Less : goal.loop-low-preserved-in-Less
loop-low-preserved-in-Less c =
    let inv = c.loop-low.invariant in
    let test = c.loop-low-test.true in
    let less = order_is c.look-child.result.now.byte c.args.byte _ c.in-Less.ensures in (
      omega (arith, inv.0),
      inv.1,
      λ i other p q. less_to c.args.nodes.now c.args.parent.now c.requires.rise c.args.byte _ (omega (arith, inv.0)) (omega (arith, inv.1, test)) (λ other. rw (c.look-child.ensures.node other) less) i other p q,
      inv.3,
      omega (arith, inv.4, c.look-child.ensures.count.keeps),
      halved _ (c.loop-low.high - c.loop-low.low) c.loop-low.probes c.look-child.new.probes _ (omega (arith, test)) inv.5 c.look-child.ensures.count.most (omega arith),
    )

pub returns-in-Equal-clause-child : goal.returns-in-Equal-clause-child
returns-in-Equal-clause-child c =
    let inv = c.loop-low.invariant in
    let test = c.loop-low-test.true in record {
      place = _;
      from = omega (arith, inv.0);
      to = omega (arith, inv.1, test);
      is = c.look-child.ensures.node;
      same = order_is c.look-child.result.now.byte c.args.byte _ c.in-Equal.ensures;
    }

pub returns-in-Equal-clause-count : goal.returns-in-Equal-clause-count
returns-in-Equal-clause-count c =
    let inv = c.loop-low.invariant in
    let test = c.loop-low-test.true in
    let half = bits_half (c.loop-low.high - c.loop-low.low) 0 (omega (arith, test)) (omega arith) in
    record { keeps = omega (arith, inv.4, c.look-child.ensures.count.keeps); most = omega (arith, inv.5, half, c.look-child.ensures.count.most) }

pub loop-low-preserved : goal.loop-low-preserved
loop-low-preserved c =
    let inv = c.loop-low.invariant in
    let test = c.loop-low-test.true in
    let greater = order_is c.look-child.result.now.byte c.args.byte _ c.in-Greater.ensures in (
      inv.0,
      omega (arith, inv.1, test),
      inv.2,
      λ i other p q. greater_from c.args.nodes.now c.args.parent.now c.requires.rise c.args.byte _ (omega (arith, inv.0)) (omega (arith, inv.1, test)) (λ other. rw (c.look-child.ensures.node other) greater) i other p q,
      omega (arith, inv.4, c.look-child.ensures.count.keeps),
      halved _ (c.loop-low.high - c.loop-low.low) c.loop-low.probes c.look-child.new.probes _ (omega (arith, test)) inv.5 c.look-child.ensures.count.most (omega arith),
    )
