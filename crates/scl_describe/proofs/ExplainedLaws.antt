-- Flags that are refused are explained: found by evaluation.
use Rattle.std.proofs.Common.{refl}
use Rattle.scl_values.specs.Tables.{all_rows}
use Rattle.scl_reasons.specs.Table.{table}
use Rattle.scl_gnu_reading.specs.ClangRows.{clang_rows, clang_tables}
use Rattle.scl_gnu_reading.specs.GccRows.{gcc_rows}
use Rattle.scl_msvc_reading.specs.Places as msvc
use Rattle.scl_msvc_reading.specs.Rows.{msvc_rows, msvc_tables}
use Rattle.scl_small.specs.DiabReading as diab
use Rattle.scl_small.specs.DiabTable.{rows as diab_rows}
use Rattle.scl_small.specs.TaskingReading as tasking
use Rattle.scl_small.specs.TaskingTable.{rows as tasking_rows}
use Rattle.scl_describe.specs.Explained.{AreExplained, is_refused_somewhere, is_refused_by_msvc, is_refused_by_small}

pub gnu-explained : AreExplained is_refused_somewhere (all_rows clang_tables)
unfolding table gcc_rows clang_rows
gnu-explained = refl

pub msvc-explained : AreExplained (λ kind. is_refused_by_msvc (msvc.place kind)) (all_rows msvc_tables)
unfolding table msvc_rows
msvc-explained = refl

pub diab-explained : AreExplained (λ kind. is_refused_by_small (diab.place kind)) diab_rows
unfolding table diab_rows
diab-explained = refl

pub tasking-explained : AreExplained (λ kind. is_refused_by_small (tasking.place kind)) tasking_rows
unfolding table tasking_rows
tasking-explained = refl
