use Rattle.std.proofs.Common.{◌≡◌, map, drop}
use Rattle.scl_values.specs.Row.{row_of}
use Rattle.scl_values.specs.Tables.{is_table}
use Rattle.scl_tables.proofs.rows.is_table.Given as goal

abbrev pub invariant-loop-i : goal.invariant-loop-i
invariant-loop-i g l = is_table (map row_of l.rows) ≡ is_table (map row_of (drop l.i l.rows))
