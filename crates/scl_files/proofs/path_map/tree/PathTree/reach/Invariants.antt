use Rattle.std.proofs.Common.{◌≡◌, ◌≤◌, Some}
use Rattle.std.specs.BTreeMap.{btree_map_len}
use Rattle.scl_files.specs.Paths.{places_from, names_of}
use Rattle.scl_files.specs.PathTrees.{led, node_at, IsTree, Keeps}
use Rattle.scl_files.specs.declared.path_map.tree.PathTree.{PathTree}
use Rattle.scl_files.proofs.path_map.tree.PathTree.reach.Given as goal

abbrev pub invariant-loop-place : goal.invariant-loop-place
invariant-loop-place l = IsTree l.self × Keeps l.fn.self l.self × (l.node ≤ btree_map_len l.self.children)
    × ((tree : PathTree) → Keeps l.self tree → led tree (Some l.node) (names_of (places_from l.place-iterator.path.now l.place-iterator.at)) ≡ node_at l.fn.path tree)
