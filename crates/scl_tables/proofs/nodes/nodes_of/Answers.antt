use Rattle.std.proofs.Common.{◌<◌, length, map, arith}
use Rattle.std.proofs.lemmas.List.{length-map}
use Rattle.scl_values.specs.Row.{row_of}
use Rattle.scl_tables.proofs.TreeLemmas.{root_built, same_group, node_rises, one_more_built, leaf_built}
use Rattle.scl_tables.proofs.nodes.nodes_of.Goals as goal
use Rattle.scl_tables.proofs.nodes.nodes_of.Goals.{then-not-node+in_ok-nodes-2, else-not-node}

pub loop-index-init : goal.loop-index-init
loop-index-init g c =
    let made = c.bare_node.ensures in
    let rows = length-map c.args.rows.now (row_of {K = g.row.K.Denot}) in
    rw (c.in_ok-push.ensures.items, c.in_ok-nodes.ensures.items) (root_built (map row_of c.args.rows.now) c.bare_node.result c.requires
    (same_group c.bare_node.result 0 0 0 (length (map (row_of {K = g.row.K.Denot}) c.args.rows.now)) made.byte made.depth made.first (omega (arith, made.end, rows))) made.bare)

pub grown-requires : goal.grown-requires
grown-requires g c = node_rises (map row_of c.args.rows.now) c.loop-index.nodes.items c.loop-index.index c.index-node.result.now c.loop-index.invariant.rise (omega (arith, c.loop-index-test.true, c.len.ensures, c.loop-index.nodes.ok.0)) c.index-node.ensures

pub loop-index-preserved : goal.loop-index-preserved
loop-index-preserved g c =
    let inside : c.loop-index.index < length c.loop-index.nodes.items = omega (arith, c.loop-index-test.true, c.len.ensures, c.loop-index.nodes.ok.0) in
    elim c.if-not-node.branch [
      | then-not-node+in_ok-nodes-2 w ↦ rw w.nodes-is (one_more_built (map row_of c.args.rows.now) c.loop-index.nodes.items w.grown.new.nodes.items w.in_ok-nodes-2.ensures.grows c.loop-index.index w.in_ok-nodes-2.field-0 c.loop-index.invariant
          inside c.index-node.result.now c.index-node.ensures w.in_ok-nodes-2.ensures.same w.in_ok-nodes-2.ensures.node)
      | else-not-node w ↦ rw w.nodes-is (leaf_built (map row_of c.args.rows.now) c.loop-index.nodes.items c.loop-index.index c.index-node.result.now c.loop-index.invariant inside c.index-node.ensures w.if-not-node.false)
    ]
