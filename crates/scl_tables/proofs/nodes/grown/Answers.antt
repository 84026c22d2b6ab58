use Rattle.std.proofs.Common.{◌∙◌, map, inl, inr, arith}
use Rattle.scl_values.specs.Row.{row_of}
use Rattle.scl_tables.proofs.TreeLemmas.{Starts, starts_inside, longer_from, one_more_grown, grown_node}
use Rattle.scl_tables.proofs.nodes.grown.Goals as goal
use Rattle.scl_tables.proofs.nodes.grown.Goals.{then-has_row, else-has_row}

pub child_at-child-requires-clause-long : goal.child_at-child-requires-clause-long
child_at-child-requires-clause-long g c =
    let starts : Starts c.has_own_row-has_row.result c.args.node.first_row c.if-has_row.first =
    elim c.if-has_row.branch [ then-has_row w ↦ inl (w.if-has_row.true, w.first-is) | else-has_row w ↦ inr (w.if-has_row.false, w.first-is) ] in
    λ k other p q. longer_from (map row_of c.args.rows.now) c.args.node.depth c.args.node.first_row c.if-has_row.first c.args.node.end_row c.has_own_row-has_row.result c.requires starts
    c.has_own_row-has_row.ensures.long k other (omega (arith, c.loop-next.invariant.from, p)) q

pub loop-next-preserved : goal.loop-next-preserved
loop-next-preserved g c =
    let starts : Starts c.has_own_row-has_row.result c.args.node.first_row c.if-has_row.first =
    elim c.if-has_row.branch [ then-has_row w ↦ inl (w.if-has_row.true, w.first-is) | else-has_row w ↦ inr (w.if-has_row.false, w.first-is) ] in
    rw c.in_ok-push.ensures.items (one_more_grown (map row_of c.args.rows.now) c.args.nodes.now.items c.loop-next.nodes.items c.args.node.depth c.args.node.first_row c.if-has_row.first c.loop-next.next c.args.node.end_row c.requires
    (starts_inside c.has_own_row-has_row.result c.args.node.first_row c.if-has_row.first starts)
    (longer_from (map row_of c.args.rows.now) c.args.node.depth c.args.node.first_row c.if-has_row.first c.args.node.end_row c.has_own_row-has_row.result c.requires starts c.has_own_row-has_row.ensures.long)
    c.loop-next.invariant c.child_at-child.result c.child_at-child.ensures.bare c.child_at-child.ensures.rise c.child_at-child.ensures.depth c.child_at-child.ensures.first c.child_at-child.ensures.some c.child_at-child.ensures.end c.child_at-child.ensures.same c.child_at-child.ensures.next)

pub returns-clause-node : goal.returns-clause-node
returns-clause-node g c =
    let starts : Starts c.has_own_row-has_row.result c.args.node.first_row c.if-has_row.first =
    elim c.if-has_row.branch [ then-has_row w ↦ inl (w.if-has_row.true, w.first-is) | else-has_row w ↦ inr (w.if-has_row.false, w.first-is) ] in
    grown_node (map row_of c.args.rows.now) c.args.nodes.now.items c.loop-next.nodes.items c.if-has_row.first c.loop-next.next _ c.loop-next.invariant (omega (arith, c.loop-next-test.false)) starts
    c.has_own_row-has_row.ensures.some c.has_own_row-has_row.ensures.short (c.len-first_child.ensures ∙ c.args.nodes.now.ok.0) (c.len.ensures ∙ c.loop-next.nodes.ok.0)
