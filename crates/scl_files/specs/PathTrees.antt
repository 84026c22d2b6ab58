-- The nodes of a tree of names, and the paths to them.
use Rattle.std.specs.Prelude.{◌≡◌, ℕ, ◌<◌, ◌≤◌, List, [], ◌∷◌, ◌++◌, fold, Option, Some}
use Rattle.std.specs.Option.{option_and_then}
use Rattle.std.specs.Ordering.{nat_cmp, ordering_then}
use Rattle.std.specs.declared.cmp.Ordering.{Ordering}
use Rattle.std.specs.Cmp.Lexicographic.{slice_cmp}
use Rattle.std.specs.BTreeMap.{get, get_by, btree_map_len}
use Rattle.scl_files.specs.Paths.{components}
use Rattle.scl_files.specs.declared.path_map.tree.PathTree.{PathTree}

-- the number of a name
abbrev pub name_number : List ℕ → PathTree → Option ℕ
name_number name tree = get_by (λ key. slice_cmp nat_cmp name key.items) tree.numbers

-- the order of steps: by the node, then by the name's number
abbrev pub step_cmp : ℕ × ℕ → ℕ × ℕ → Ordering
step_cmp a b = ordering_then (nat_cmp a.0 b.0) (nat_cmp a.1 b.1)

-- the child of a node by a name
abbrev pub child : PathTree → List ℕ → ℕ → Option ℕ
child tree name node = option_and_then (λ number. get step_cmp tree.children (node, number)) (name_number name tree)

-- the node that is reached by names in turn
abbrev pub led : PathTree → Option ℕ → List (List ℕ) → Option ℕ
led tree node names = fold (λ at name. option_and_then (child tree name) at) node names

-- a path's start and its names
abbrev pub parts_of : List ℕ → List (List ℕ)
parts_of path = (components path).start ∷ (components path).names

-- the node that a path leads to
abbrev pub node_at : List ℕ → PathTree → Option ℕ
node_at path tree = led tree (Some 0) (parts_of path)

-- names that led to a node lead to the same one
abbrev pub Keeps : PathTree → PathTree → Type 0
Keeps old new = (name : List ℕ) (node to : ℕ) → child old name node ≡ Some to → child new name node ≡ Some to

-- each number has one name, and each node has one list of parts that leads to it
pub record IsTree (tree : PathTree) : Type 0 where
  pub name : ℕ → List ℕ
  pub parts : ℕ → List (List ℕ)
  pub root : parts 0 ≡ []
  pub named : (x : List ℕ) (number : ℕ) → name_number x tree ≡ Some number → (name number ≡ x) × (number < btree_map_len tree.numbers)
  pub parted : (node number to : ℕ) → get step_cmp tree.children (node, number) ≡ Some to
      → (parts to ≡ parts node ++ name number ∷ []) × (node ≤ btree_map_len tree.children) × (number < btree_map_len tree.numbers) × (to ≤ btree_map_len tree.children)
