-- The nodes of a tree: those of its table, or its own.
use Rattle.std.specs.Prelude.{◌≡◌, List, Result, Ok}
use Rattle.scl_tables.specs.declared.nodes.Node.{Node}
use Rattle.scl_tables.specs.declared.nodes.Nodes.{Nodes}
use Rattle.scl_tables.specs.declared.nodes.Nodes.TheVariants.{Lent, Built}

abbrev pub nodes_in : Nodes → List Node
nodes_in (Lent nodes) = nodes.now
nodes_in (Built nodes) = nodes.items

-- the result is exactly these nodes, and not a failed allocation
abbrev pub GivesLent : {E : Type 0} → List Node → Result Nodes E → Type 0
GivesLent lent (Ok (Lent nodes)) = nodes.now ≡ lent
GivesLent lent _ = ⊥
