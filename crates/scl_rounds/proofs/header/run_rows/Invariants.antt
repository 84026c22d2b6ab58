use Rattle.std.proofs.Common.{◌≡◌, ◌++◌, drop}
use Rattle.std.specs.List.{filter_map}
use Rattle.scl_key.specs.Views.{parts_of}
use Rattle.scl_questions.specs.Views.{rows_of}
use Rattle.scl_rounds.specs.Headers.{run_row, run_rows}
use Rattle.scl_rounds.specs.Views.{key_of}
use Rattle.scl_rounds.proofs.header.run_rows.Given as goal

abbrev pub invariant-loop-part : goal.invariant-loop-part
invariant-loop-part l = rows_of l.rows.items ++ filter_map run_row (parts_of (drop l.part-index l.key.parts.now)) ≡ run_rows (key_of l.key)
