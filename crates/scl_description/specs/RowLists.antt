-- Rows in a list.
use Rattle.std.specs.Prelude.{ℕ, List}
use Rattle.scl_text.specs.Runs.{runs_of}
use Rattle.scl_description.specs.declared.list.RowList.{RowList}

-- the rows that a list has
abbrev pub held : RowList → List (List (List ℕ))
held list = runs_of list.rows.items
