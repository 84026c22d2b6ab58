use Rattle.std.proofs.Common.{◌≡◌, drop, map}
use Rattle.std.specs.List.{list_any}
use Rattle.scl_rows.specs.Rows.{told}
use Rattle.scl_report.specs.Nothing.{asks_for_assembly}
use Rattle.scl_report.proofs.nothing.some_ask_for_assembly.Given as goal

abbrev pub invariant-loop-row : goal.invariant-loop-row
invariant-loop-row l = list_any asks_for_assembly (map told (drop l.row-index l.rows)) ≡ list_any asks_for_assembly (map told l.rows)
