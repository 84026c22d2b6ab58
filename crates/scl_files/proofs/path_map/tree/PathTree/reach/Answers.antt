use Rattle.std.proofs.Common.{◌≡◌, ◌∷◌, Some, sym, ◌∙◌}
use Rattle.scl_files.specs.Paths.{places_from, names_of}
use Rattle.scl_files.specs.PathTrees.{led, node_at}
use Rattle.scl_files.proofs.PathTreeLemmas.{keeps-all, led_on}
use Rattle.scl_files.proofs.path_map.tree.PathTree.reach.Goals as goal

pub loop-place-preserved : goal.loop-place-preserved
loop-place-preserved c =
    let before = c.loop-place.self in
    let after = c.grow-in-loop-place.new.self in
    let rest = names_of (places_from c.next.new.self.path.now c.next.new.self.at) in (
      c.grow-in-loop-place.ensures.tree,
      keeps-all c.args.self.now before after c.loop-place.invariant.1 c.grow-in-loop-place.ensures.keeps,
      c.in_ok-node-2.ensures.within,
      λ tree keeps.
          let led_here : led tree (Some c.loop-place.node) (c.in-Some.place.name.now ∷ rest) ≡ node_at c.args.path.now tree
          = rw c.in-Some.ensures.steps at (c.loop-place.invariant.3 tree (keeps-all before after tree c.grow-in-loop-place.ensures.keeps keeps)) in
          sym (led_on after tree c.in-Some.place.name.now c.loop-place.node c.in_ok-node-2.node rest c.in_ok-node-2.ensures.child keeps) ∙ led_here,
    )
