-- The entries of a map of paths in the order of adding, and the links to them.
use Rattle.std.specs.Prelude.{◌≡◌, ℕ, zero, suc, ◌==◌, cond, List, [], ◌∷◌, length, Option, None, Some}
use Rattle.std.specs.List.{slice_get}
use Rattle.std.specs.Ordering.{nat_cmp}
use Rattle.std.specs.BTreeMap.{BTreeMap, get}
use Rattle.scl_files.specs.Paths.{same_path}
use Rattle.scl_files.specs.PathTrees.{IsTree, node_at}
use Rattle.scl_files.specs.declared.path_map.entry.Entry.{Entry}
use Rattle.scl_files.specs.declared.path_map.tree.PathTree.{PathTree}

abbrev pub onto : {T : Type 0} → Option (Entry T) → List (List ℕ × T) → List (List ℕ × T)
onto None rest = rest
onto (Some entry) rest = (entry.path.items, entry.value) ∷ rest

-- the first n entries, the newest first
abbrev pub shown_up_to : {T : Type 0} → List (Entry T) → ℕ → List (List ℕ × T)
shown_up_to entries zero = []
shown_up_to entries (suc n) = onto (slice_get entries n) (shown_up_to entries n)

abbrev pub shown : {T : Type 0} → List (Entry T) → List (List ℕ × T)
shown entries = shown_up_to entries (length entries)

abbrev pub this_at : {T : Type 0} → List ℕ → ℕ → Option (Entry T) → Option ℕ → Option ℕ
this_at path n None older = older
this_at path n (Some entry) older = cond (same_path entry.path.items path) (Some n) older

-- the index of the newest of the first n entries at the path
abbrev pub place_at : {T : Type 0} → List ℕ → List (Entry T) → ℕ → Option ℕ
place_at path entries zero = None
place_at path entries (suc n) = this_at path n (slice_get entries n) (place_at path entries n)

abbrev pub this_or : {T : Type 0} → ℕ → ℕ → Option (Entry T) → Option ℕ → Option ℕ
this_or node n None older = older
this_or node n (Some entry) older = cond (entry.node == node) (Some n) older

-- the index of the newest of the first n entries at the node
abbrev pub newest_up_to : {T : Type 0} → ℕ → List (Entry T) → ℕ → Option ℕ
newest_up_to node entries zero = None
newest_up_to node entries (suc n) = this_or node n (slice_get entries n) (newest_up_to node entries n)

-- each entry has the node of its path and the index of the next older entry there, and the map has the index of the newest
pub record IsLinked {T : Type 0} (entries : List (Entry T)) (tree : PathTree) (newest : BTreeMap ℕ ℕ) : Type 0 where
  pub is_tree : IsTree tree
  pub reached : (k : ℕ) (entry : Entry T) → slice_get entries k ≡ Some entry → node_at entry.path.items tree ≡ Some entry.node
  pub older : (k : ℕ) (entry : Entry T) → slice_get entries k ≡ Some entry → entry.older ≡ newest_up_to entry.node entries k
  pub first : (node : ℕ) → get nat_cmp newest node ≡ newest_up_to node entries (length entries)
