use Rattle.std.proofs.Common.{◌≡◌, true, [], ◌∷◌, refl}
use Rattle.std.specs.Prelude.{codes}
use Rattle.scl_args.specs.Options.{side_of_flag}
use Rattle.scl_values.specs.Tables.{all_rows}
use Rattle.scl_args.specs.NoFiles.{has_plain_flags}
use Rattle.scl_args.specs.Checks.{PassChecks, has_no_kept}
use Rattle.scl_gnu_reading.specs.Again.{carried, carried_inner}
use Rattle.scl_gnu_reading.specs.ClangRows.{clang_rows, clang_tables}
use Rattle.scl_gnu_reading.specs.GccRows.{gcc_rows}

pub gcc_passes : PassChecks (gcc_rows ∷ []) carried side_of_flag
unfolding gcc_rows clang_rows
gcc_passes = record { keeps = refl; safe = refl }

pub clang_passes : PassChecks clang_tables carried side_of_flag
unfolding gcc_rows clang_rows
clang_passes = record { keeps = refl; safe = refl }

pub inner_passes : PassChecks clang_tables carried_inner side_of_flag
unfolding gcc_rows clang_rows
inner_passes = record { keeps = refl; safe = refl }

pub no_xclang : has_no_kept carried (codes "-Xclang") (all_rows clang_tables) ≡ true
unfolding gcc_rows clang_rows
no_xclang = refl

pub carried_plain : has_plain_flags carried (all_rows clang_tables) ≡ true
unfolding gcc_rows clang_rows
carried_plain = refl

pub carried_inner_plain : has_plain_flags carried_inner (all_rows clang_tables) ≡ true
unfolding gcc_rows clang_rows
carried_inner_plain = refl
