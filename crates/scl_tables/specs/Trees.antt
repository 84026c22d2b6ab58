-- Prefix trees over the rows of a table.
use Rattle.std.specs.Prelude.{◌≡◌, ◌≢◌, ℕ, ◌+◌, ◌<◌, ◌≤◌, true, false, List, length, map, drop, slice_index, slice_index_or, ◌⊎◌}
use Rattle.std.specs.Cmp.Lexicographic.{slice_cmp}
use Rattle.std.specs.Ordering.{nat_cmp}
use Rattle.std.specs.declared.cmp.Ordering.TheVariants.{Less}
use Rattle.scl_values.specs.Row.{Row, fits}
use Rattle.scl_tables.specs.declared.nodes.Node.{Node}

-- rows whose flags begin with the same bytes: the first byte after those of the parent, the number of bytes, the first row
-- and the index after the last
pub record Group : Type 0 where
  pub byte : ℕ
  pub depth : ℕ
  pub first : ℕ
  pub end : ℕ

-- the node that is given if there is none at an index
abbrev pub no_node : Node
no_node = record { byte = 0; has_row = false; depth = 0; first_row = 0; end_row = 0; first_child = 0; end_child = 0 }

abbrev pub group_of : Node → Group
group_of node = record { byte = node.byte; depth = node.depth; first = node.first_row; end = node.end_row }

-- all rows
abbrev pub whole : {K : Type 0} → List (Row K) → Group
whole rows = record { byte = 0; depth = 0; first = 0; end = length rows }

-- the rows' flags have at least `depth` bytes, and rise strictly after these
pub record RiseBehind {K : Type 0} (rows : List (Row K)) (depth first end : ℕ) : Type 0 where
  pub order : first ≤ end
  pub within : end ≤ length rows
  pub long : (k : ℕ) (other : Row K) → first ≤ k → k < end → depth ≤ length (slice_index_or rows k other).flag
  pub rise : (j k : ℕ) (other : Row K) → first ≤ j → j < k → k < end
      → slice_cmp nat_cmp (drop depth (slice_index_or rows j other).flag) (drop depth (slice_index_or rows k other).flag) ≡ Less

abbrev pub RiseIn : {K : Type 0} → List (Row K) → Group → Type 0
RiseIn rows group = RiseBehind rows group.depth group.first group.end

-- a row is one of a child's: its flag has the child's byte next
pub record IsBelow {K : Type 0} (rows : List (Row K)) (groups : List Group) (depth low high k : ℕ) : Type 0 where
  pub child : ℕ
  pub from : low ≤ child
  pub to : child < high
  pub first : (other : Group) → (slice_index_or groups child other).first ≤ k
  pub end : (other : Group) → k < (slice_index_or groups child other).end
  pub longer : (other : Row K) → depth < length (slice_index_or rows k other).flag
  pub byte : (other : Row K) (none : Group) → slice_index (slice_index_or rows k other).flag depth ≡ (slice_index_or groups child none).byte

-- the groups from one index to another are children that have the rows: deeper, in the order of their bytes, and no more than
-- the rows
pub record AreChildren {K : Type 0} (rows : List (Row K)) (groups : List Group) (depth low high first end : ℕ) : Type 0 where
  pub few : high + first ≤ low + end
  pub within : high ≤ length groups
  pub deeper : (i : ℕ) (other : Group) → low ≤ i → i < high → depth < (slice_index_or groups i other).depth
  pub rise : (i j : ℕ) (other : Group) → low ≤ i → i < j → j < high → (slice_index_or groups i other).byte < (slice_index_or groups j other).byte
  pub all_below : (k : ℕ) → first ≤ k → k < end → IsBelow rows groups depth low high k

-- if a node has a row of its own, that is its first row, and its children have the others; else its children have all
pub record IsNode {K : Type 0} (rows : List (Row K)) (groups : List Group) (node : Node) : Type 0 where
  pub own : node.has_row ≡ true → node.first_row < node.end_row
  pub short : node.has_row ≡ true → node.first_child < node.end_child → (other : Row K) → length (slice_index_or rows node.first_row other).flag ≤ node.depth
  pub others : ((node.has_row ≡ true) × AreChildren rows groups node.depth node.first_child node.end_child (node.first_row + 1) node.end_row)
      ⊎ AreChildren rows groups node.depth node.first_child node.end_child node.first_row node.end_row

-- a node without children; it has a row of its own only if that is its only row
pub record IsBare (node : Node) : Type 0 where
  pub single : node.has_row ≡ true → node.end_row ≡ node.first_row + 1
  pub childless : node.end_child ≡ 0

-- the nodes are a tree of the rows: the root has all of them
pub record IsTree {K : Type 0} (rows : List (Row K)) (nodes : List Node) : Type 0 where
  pub some : 0 < length nodes
  pub root : (other : Node) → group_of (slice_index_or nodes 0 other) ≡ whole rows
  pub rise : (i : ℕ) (other : Group) → i < length nodes → RiseIn rows (slice_index_or (map group_of nodes) i other)
  pub is_node : (i : ℕ) (other : Node) → i < length nodes → IsNode rows (map group_of nodes) (slice_index_or nodes i other)

-- a node's rows are among the rows, and the flag of its own row has all bytes on the way
pub record Lies {K : Type 0} (rows : List (Row K)) (node : Node) : Type 0 where
  pub order : node.first_row ≤ node.end_row
  pub within : node.end_row ≤ length rows
  pub long : node.has_row ≡ true → (other : Row K) → node.depth ≤ length (slice_index_or rows node.first_row other).flag

-- what a search needs of nodes: the root has all rows, and each node has its rows itself or in its children
pub record Leads {K : Type 0} (rows : List (Row K)) (nodes : List Node) : Type 0 where
  pub some : 0 < length nodes
  pub first : (other : Node) → (slice_index_or nodes 0 other).first_row ≡ 0
  pub end : (other : Node) → (slice_index_or nodes 0 other).end_row ≡ length rows
  pub lies : (i : ℕ) (other : Node) → i < length nodes → Lies rows (slice_index_or nodes i other)
  pub is_node : (i : ℕ) (other : Node) → i < length nodes → IsNode rows (map group_of nodes) (slice_index_or nodes i other)

-- there are no nodes, or they lead to the rows
abbrev pub Lead : {K : Type 0} → List (Row K) → List Node → Type 0
Lead rows nodes = (length nodes ≡ 0) ⊎ Leads rows nodes

-- bare nodes, of rows that rise, were appended
pub record Grows {K : Type 0} (rows : List (Row K)) (old new : List Node) : Type 0 where
  pub longer : length old ≤ length new
  pub keeps : (i : ℕ) (other : Node) → i < length old → slice_index_or new i other ≡ slice_index_or old i other
  pub rise : (i : ℕ) (other : Group) → length old ≤ i → i < length new → RiseIn rows (slice_index_or (map group_of new) i other)
  pub bare : (i : ℕ) (other : Node) → length old ≤ i → i < length new → IsBare (slice_index_or new i other)

-- ---- on the way of a word's bytes

-- the node's own row fits the word
pub record OwnFits {K : Type 0} (rows : List (Row K)) (node : Node) (word : List ℕ) (row : Row K) : Type 0 where
  pub own : node.has_row ≡ true
  pub is : (other : Row K) → slice_index_or rows node.first_row other ≡ row
  pub fit : fits row word ≡ true

-- the node has no row of its own that fits the word
abbrev pub NoneFits : {K : Type 0} → List (Row K) → Node → List ℕ → Type 0
NoneFits {K} rows node word = node.has_row ≡ true → (other : Row K) → fits (slice_index_or rows node.first_row other) word ≡ false

abbrev pub ChildrenRise : List Node → Node → Type 0
ChildrenRise nodes parent = (i j : ℕ) (other : Node) → parent.first_child ≤ i → i < j → j < parent.end_child → (slice_index_or nodes i other).byte < (slice_index_or nodes j other).byte

abbrev pub NoChild : List Node → Node → ℕ → Type 0
NoChild nodes parent byte = (i : ℕ) (other : Node) → parent.first_child ≤ i → i < parent.end_child → (slice_index_or nodes i other).byte ≢ byte

-- the parent's child for a byte
pub record IsChild (nodes : List Node) (parent : Node) (byte : ℕ) (child : Node) : Type 0 where
  pub place : ℕ
  pub from : parent.first_child ≤ place
  pub to : place < parent.end_child
  pub is : (other : Node) → slice_index_or nodes place other ≡ child
  pub same : child.byte ≡ byte
