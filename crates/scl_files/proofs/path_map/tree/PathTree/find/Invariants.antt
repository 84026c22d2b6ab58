use Rattle.std.proofs.Common.{◌≡◌, Some}
use Rattle.scl_files.specs.Paths.{places_from, names_of}
use Rattle.scl_files.specs.PathTrees.{led, node_at}
use Rattle.scl_files.proofs.path_map.tree.PathTree.find.Given as goal

abbrev pub invariant-loop-place : goal.invariant-loop-place
invariant-loop-place l = led l.self (Some l.node) (names_of (places_from l.place-iterator.path.now l.place-iterator.at)) ≡ node_at l.path l.self
