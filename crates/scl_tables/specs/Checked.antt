-- Whether nodes are a prefix tree of rows, by one test of each node.
use Rattle.std.specs.Prelude.{ℕ, zero, suc, ◌+◌, ◌-◌, Bool, true, cond, nat_lt, ◌==◌, ◌&&◌, List, [], length, map, slice_index, slice_index_or}
use Rattle.scl_values.specs.Row.{Row}
use Rattle.scl_tables.specs.declared.nodes.Node.{Node}
use Rattle.scl_tables.specs.Trees.{no_node}

-- whether it holds of n numbers, from `from` on
abbrev pub all_from : (ℕ → Bool) → ℕ → ℕ → Bool
all_from p zero from = true
all_from p (suc n) from = p from && all_from p n (suc from)

abbrev pub node_at : List Node → ℕ → Node
node_at nodes i = slice_index_or nodes i no_node

-- whether a flag has the byte after its first `depth` ones
abbrev pub goes_on : ℕ → ℕ → List ℕ → Bool
goes_on depth byte flag = nat_lt depth (length flag) && (slice_index flag depth == byte)

-- whether a node is deeper, and the flags of all its rows go on with its byte
abbrev pub is_child : List (List ℕ) → ℕ → Node → Bool
is_child flags depth child = nat_lt depth child.depth && all_from (λ k. goes_on depth child.byte (slice_index_or flags k [])) (child.end_row - child.first_row) child.first_row

-- whether the second node has a greater byte, and its rows follow those of the first
abbrev pub follows : Node → Node → Bool
follows one next = nat_lt one.byte next.byte && (one.end_row == next.first_row)

-- whether the nodes from one index to another have the rows from one index to another, in order
abbrev pub have_rows : List Node → ℕ → ℕ → ℕ → ℕ → Bool
have_rows nodes low high from end = cond (nat_lt low high)
    (((node_at nodes low).first_row == from) && (((node_at nodes (high - 1)).end_row == end) && all_from (λ i. follows (node_at nodes i) (node_at nodes (suc i))) (high - suc low) low))
    (from == end)

-- whether these nodes are children that have these rows, and are no more than the rows
abbrev pub are_children : List (List ℕ) → List Node → ℕ → ℕ → ℕ → ℕ → ℕ → Bool
are_children flags nodes depth low high from end = (nat_lt (high + from) (suc (low + end)) && nat_lt high (suc (length nodes)))
    && (have_rows nodes low high from end && all_from (λ i. is_child flags depth (node_at nodes i)) (high - low) low)

-- whether the flag of a node's own row ends there, or the row is the node's only one
abbrev pub owns_row : List (List ℕ) → Node → Bool
owns_row flags node = nat_lt node.first_row node.end_row && (nat_lt node.depth (suc (length (slice_index_or flags node.first_row [])))
    && cond (nat_lt node.first_child node.end_child) (nat_lt (length (slice_index_or flags node.first_row [])) (suc node.depth)) true)

abbrev pub is_node : List (List ℕ) → List Node → Node → Bool
is_node flags nodes node = (nat_lt node.first_row (suc node.end_row) && nat_lt node.end_row (suc (length flags)))
    && cond node.has_row
    (owns_row flags node && are_children flags nodes node.depth node.first_child node.end_child (node.first_row + 1) node.end_row)
    (are_children flags nodes node.depth node.first_child node.end_child node.first_row node.end_row)

abbrev pub is_root : List (List ℕ) → Node → Bool
is_root flags node = (node.first_row == 0) && (node.end_row == length flags)

-- whether the nodes are a tree of the flags
abbrev pub is_tree_of : List (List ℕ) → List Node → Bool
is_tree_of flags nodes = (nat_lt 0 (length nodes) && is_root flags (node_at nodes 0)) && all_from (λ i. is_node flags nodes (node_at nodes i)) (length nodes) 0

-- whether the nodes are a prefix tree of the rows
abbrev pub is_tree : {K : Type 0} → List (Row K) → List Node → Bool
is_tree rows nodes = is_tree_of (map (λ row. row.flag) rows) nodes
