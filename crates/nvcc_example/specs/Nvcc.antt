-- The tables by which command lines of nvcc are read.
use Rattle.std.specs.Prelude.{List, [], ◌∷◌, codes, Some}
use Rattle.scl_values.specs.Row.{Row, row, apart, either}
use Rattle.scl_gnu_reading.specs.declared.gcc.data.Kind.{Kind}
use Rattle.scl_gnu_reading.specs.declared.gcc.data.Kind.TheVariants as kind
use Rattle.scl_gnu_reading.specs.ClangRows.{clang_rows}
use Rattle.scl_gnu_reading.specs.GccRows.{gcc_rows}

-- what nvcc reads differently from Gcc and Clang
unfoldable pub nvcc_rows : List (Row Kind)
nvcc_rows =
    row (codes "--threads") kind.Unhashed apart ∷
    row (codes "-arch") kind.PassThrough apart ∷
    row (codes "-code") kind.PassThrough (either (Some 61)) ∷
    row (codes "-gencode") kind.PassThrough (either (Some 61)) ∷ []

-- of several tables that have a flag the last one owns it
abbrev pub nvcc_tables : List (List (Row Kind))
nvcc_tables = gcc_rows ∷ clang_rows ∷ nvcc_rows ∷ []
