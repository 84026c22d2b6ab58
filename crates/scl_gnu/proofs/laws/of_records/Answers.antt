use Rattle.scl_text.specs.declared.records.CCompilerKind.TheVariants as compilers
use Rattle.std.specs.Prelude.{[], ◌∷◌}
use Rattle.scl_gnu_reading.specs.ClangRows.{clang_tables}
use Rattle.scl_gnu_reading.specs.GccRows.{gcc_rows}
use Rattle.scl_gnu.proofs.RecordLaws.{have-objects, gcc-has-no-empty, clang-has-no-empty}
use Rattle.scl_gnu.proofs.laws.of_records.Goals as goal

pub returns-clause-gcc_has_objects : goal.returns-clause-gcc_has_objects
returns-clause-gcc_has_objects c = have-objects compilers.Gcc (gcc_rows ∷ [])

pub returns-clause-clang_has_objects : goal.returns-clause-clang_has_objects
returns-clause-clang_has_objects c = have-objects compilers.Clang clang_tables

pub returns-clause-gcc_has_no_empty : goal.returns-clause-gcc_has_no_empty
returns-clause-gcc_has_no_empty c = gcc-has-no-empty

pub returns-clause-clang_has_no_empty : goal.returns-clause-clang_has_no_empty
returns-clause-clang_has_no_empty c = clang-has-no-empty
