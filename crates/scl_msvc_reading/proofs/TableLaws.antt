-- What is needed of Msvc's tables.
use Rattle.std.proofs.Common.{refl}
use Rattle.std.specs.Bool.{IsTrue}
use Rattle.scl_values.specs.Tables.{tables_hold_values}
use Rattle.scl_msvc_reading.specs.Data.{holds_value}
use Rattle.scl_msvc_reading.specs.Rows.{msvc_rows, msvc_tables}

pub msvc_tables_hold_values : IsTrue (tables_hold_values holds_value msvc_tables)
unfolding msvc_rows
msvc_tables_hold_values = refl
