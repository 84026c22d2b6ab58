use Rattle.std.proofs.Common.{◌≡◌, length, Some, None, sym, ◌∙◌}
use Rattle.scl_files.specs.PathTrees.{node_at}
use Rattle.scl_files.proofs.PathMapLemmas.{place-nowhere, place-by-node}
use Rattle.scl_files.proofs.path_map.links.place_of.Goals as goal

pub returns-in_err-node : goal.returns-in_err-node
returns-in_err-node g c =
    let nowhere : node_at c.args.path.now c.args.tree.now ≡ None = sym c.in_err-node.ensures in
    rw c.from_residual.ensures (sym (place-nowhere c.args.path.now c.args.entries.now c.args.tree.now c.args.newest.now c.requires (length c.args.entries.now) nowhere))

pub returns : goal.returns
returns g c =
    let leads : node_at c.args.path.now c.args.tree.now ≡ Some c.in_ok-node.node = sym c.in_ok-node.ensures in
    c.copied.ensures ∙ c.get.ensures.value ∙ c.requires.first c.in_ok-node.node ∙ sym (place-by-node c.args.path.now c.args.entries.now c.args.tree.now c.args.newest.now c.requires c.in_ok-node.node (length c.args.entries.now) leads)
