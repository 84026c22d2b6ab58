use Rattle.std.proofs.Common.{ℕ, ◌+◌, ◌≤◌, length, None, refl, sym, ap, slice_index, arith}
use Rattle.std.proofs.Math.Nat.{mul-le-mul_left}
use Rattle.scl_tables.specs.declared.nodes.Node.{Node}
use Rattle.scl_values.specs.Row.{row_at}
use Rattle.scl_tables.specs.Probes.{bits}
use Rattle.scl_tables.proofs.BitsLemmas.{bits_le}
use Rattle.scl_tables.proofs.DescentLemmas.{within, few, children_rise, no_child_left, child_deeper, on_to_child, word_ended, found_owner, node_there, root_before, tried, first_of, longer_of, root_count}
use Rattle.scl_tables.proofs.tree.deepest_fit.Goals as goal

pub loop-node-init : goal.loop-node-init
loop-node-init g c =
    let root : Node = c.look-node.result.now in
    let tree = c.requires in
    let there = node_there c.args.rows.now c.args.nodes.now tree c.args.word.now 0 root tree.some c.look-node.ensures.node in (
      there.0,
      there.1,
      root_count root.depth root.has_row c.args.probes.now c.look-node.new.probes c.own_fit-found.new.probes (length c.args.rows.now) c.look-node.ensures.count.most c.own_fit-found.ensures.count.most c.own_fit-found.ensures.free
          (λ own. omega (arith, there.0.own own, there.1.within)),
      tried c.args.rows.now c.args.nodes.now tree c.args.word.now root there.0 there.1 None (root_before c.args.rows.now c.args.nodes.now tree c.args.word.now root c.look-node.ensures.node) c.own_fit-found.result c.own_fit-found.ensures.row (row_at c.own_fit-found.result) (first_of c.own_fit-found.result),
      λ l. let more = c.look-node.ensures.rises l in omega (arith, more, c.own_fit-found.ensures.count.keeps),
      omega (arith, c.look-node.ensures.count.keeps, c.own_fit-found.ensures.count.keeps),
      root_count (length c.args.word.now) root.has_row c.args.probes.now c.look-node.new.probes c.own_fit-found.new.probes (length c.args.rows.now) c.look-node.ensures.count.most c.own_fit-found.ensures.count.most c.own_fit-found.ensures.free
          (λ own. omega (arith, there.0.own own, there.1.within)),
    )

pub child_for-requires-clause-rise : goal.child_for-requires-clause-rise
child_for-requires-clause-rise g c = children_rise c.args.rows.now c.args.nodes.now c.loop-node.node.now c.loop-node.invariant.0

pub returns-in_default-clause-owner : goal.returns-in_default-clause-owner
returns-in_default-clause-owner g c =
    let inv = c.loop-node.invariant in
    found_owner c.args.rows.now c.args.nodes.now c.loop-node.node.now inv.0 c.args.word.now (row_at c.loop-node.found) inv.3
    (no_child_left c.args.rows.now c.args.nodes.now c.loop-node.node.now inv.0 c.args.word.now (slice_index c.args.word.now c.loop-node.node.now.depth) refl c.in_default.ensures.child)

pub returns-in_default-clause-count : goal.returns-in_default-clause-count
returns-in_default-clause-count g c =
    let inv = c.loop-node.invariant in
    let less = bits_le _ _ (few c.args.rows.now c.args.nodes.now c.loop-node.node.now inv.0 inv.1) in
    record {
      keeps = omega (arith, inv.5, c.child_for.ensures.count.keeps);
      most = omega (
        arith,
        inv.2,
        less,
        c.child_for.ensures.count.most,
        mul-le-mul_left (bits (length c.args.rows.now) + 1) (let step : c.loop-node.node.now.depth + 2 ≤ length c.args.word.now + 1 = omega (arith, c.loop-node-test.true) in step),
      );
    }

pub own_fit-requires : goal.own_fit-requires
own_fit-requires g c =
    let inv = c.loop-node.invariant in
    let chosen = c.in-Some.ensures.child in
    let there = node_there c.args.rows.now c.args.nodes.now c.requires c.args.word.now chosen.place c.in-Some.child.now (omega (arith, chosen.to, within c.args.rows.now c.args.nodes.now c.loop-node.node.now inv.0)) chosen.is in
    λ own. omega (arith, there.0.own own, there.1.within)

pub loop-node-preserved-in-Some-own_fit : goal.loop-node-preserved-in-Some-own_fit
loop-node-preserved-in-Some-own_fit g c =
    let inv = c.loop-node.invariant in
    let child : Node = c.in-Some.child.now in
    let chosen = c.in-Some.ensures.child in
    let there = node_there c.args.rows.now c.args.nodes.now c.requires c.args.word.now chosen.place child (omega (arith, chosen.to, within c.args.rows.now c.args.nodes.now c.loop-node.node.now inv.0)) chosen.is in
    let byte : ℕ = slice_index c.args.word.now c.loop-node.node.now.depth in
    let deeper = child_deeper c.args.rows.now c.args.nodes.now c.loop-node.node.now inv.0 c.args.word.now byte refl child chosen in
    let less = bits_le _ _ (few c.args.rows.now c.args.nodes.now c.loop-node.node.now inv.0 inv.1) in (
      there.0,
      there.1,
      omega (arith, inv.2, less, c.child_for.ensures.count.most, c.own_fit.ensures.count.most, mul-le-mul_left (bits (length c.args.rows.now) + 1) (let step : c.loop-node.node.now.depth + 2 ≤ child.depth + 1 = omega (arith, deeper) in step)),
      tried c.args.rows.now c.args.nodes.now c.requires c.args.word.now child there.0 there.1 (row_at c.loop-node.found)
          (on_to_child c.args.rows.now c.args.nodes.now c.loop-node.node.now inv.0 c.args.word.now byte refl child chosen (row_at c.loop-node.found) inv.3) c.own_fit.result c.own_fit.ensures.row _
          (sym (ap (λ own. longer_of own (row_at c.loop-node.found)) c.in-Some-own_fit.is)),
      λ l. let more = inv.4 l in omega (arith, more, c.child_for.ensures.count.keeps, c.own_fit.ensures.count.keeps),
      omega (arith, inv.5, c.child_for.ensures.count.keeps, c.own_fit.ensures.count.keeps),
      omega (arith, inv.2, less, c.child_for.ensures.count.most, c.own_fit.ensures.count.most, mul-le-mul_left (bits (length c.args.rows.now) + 1) (let step : c.loop-node.node.now.depth + 2 ≤ length c.args.word.now + 1 = omega (arith, c.loop-node-test.true) in step)),
    )

pub loop-node-preserved : goal.loop-node-preserved
loop-node-preserved g c =
    let inv = c.loop-node.invariant in
    let child : Node = c.in-Some.child.now in
    let chosen = c.in-Some.ensures.child in
    let there = node_there c.args.rows.now c.args.nodes.now c.requires c.args.word.now chosen.place child (omega (arith, chosen.to, within c.args.rows.now c.args.nodes.now c.loop-node.node.now inv.0)) chosen.is in
    let byte : ℕ = slice_index c.args.word.now c.loop-node.node.now.depth in
    let deeper = child_deeper c.args.rows.now c.args.nodes.now c.loop-node.node.now inv.0 c.args.word.now byte refl child chosen in
    let less = bits_le _ _ (few c.args.rows.now c.args.nodes.now c.loop-node.node.now inv.0 inv.1) in (
      there.0,
      there.1,
      omega (arith, inv.2, less, c.child_for.ensures.count.most, c.own_fit.ensures.count.most, mul-le-mul_left (bits (length c.args.rows.now) + 1) (let step : c.loop-node.node.now.depth + 2 ≤ child.depth + 1 = omega (arith, deeper) in step)),
      tried c.args.rows.now c.args.nodes.now c.requires c.args.word.now child there.0 there.1 (row_at c.loop-node.found)
          (on_to_child c.args.rows.now c.args.nodes.now c.loop-node.node.now inv.0 c.args.word.now byte refl child chosen (row_at c.loop-node.found) inv.3) c.own_fit.result c.own_fit.ensures.row _
          (sym (ap (λ own. longer_of own (row_at c.loop-node.found)) c.in_default-own_fit.is)),
      λ l. let more = inv.4 l in omega (arith, more, c.child_for.ensures.count.keeps, c.own_fit.ensures.count.keeps),
      omega (arith, inv.5, c.child_for.ensures.count.keeps, c.own_fit.ensures.count.keeps),
      omega (arith, inv.2, less, c.child_for.ensures.count.most, c.own_fit.ensures.count.most, mul-le-mul_left (bits (length c.args.rows.now) + 1) (let step : c.loop-node.node.now.depth + 2 ≤ length c.args.word.now + 1 = omega (arith, c.loop-node-test.true) in step)),
    )

pub loop-node-smaller-in-Some-own_fit : goal.loop-node-smaller-in-Some-own_fit
loop-node-smaller-in-Some-own_fit g c =
    let byte : ℕ = slice_index c.args.word.now c.loop-node.node.now.depth in
    let deeper = child_deeper c.args.rows.now c.args.nodes.now c.loop-node.node.now c.loop-node.invariant.0 c.args.word.now byte refl c.in-Some.child.now c.in-Some.ensures.child in
    omega (arith, c.loop-node-test.true, deeper)

pub loop-node-smaller : goal.loop-node-smaller
loop-node-smaller g c =
    let byte : ℕ = slice_index c.args.word.now c.loop-node.node.now.depth in
    let deeper = child_deeper c.args.rows.now c.args.nodes.now c.loop-node.node.now c.loop-node.invariant.0 c.args.word.now byte refl c.in-Some.child.now c.in-Some.ensures.child in
    omega (arith, c.loop-node-test.true, deeper)

pub returns-clause-owner : goal.returns-clause-owner
returns-clause-owner g c =
    let inv = c.loop-node.invariant in
    found_owner c.args.rows.now c.args.nodes.now c.loop-node.node.now inv.0 c.args.word.now (row_at c.loop-node.found) inv.3
    (word_ended c.args.rows.now c.args.nodes.now c.loop-node.node.now inv.0 c.args.word.now (omega (arith, c.loop-node-test.false)))
