use Rattle.std.proofs.Common.{◌≡◌, true, [], ◌∷◌, refl}
use Rattle.std.specs.Prelude.{codes}
use Rattle.scl_args.specs.Options as listed
use Rattle.scl_values.specs.Tables.{all_rows}
use Rattle.scl_args.specs.NoFiles.{has_plain_flags}
use Rattle.scl_args.specs.Checks.{PassChecks, JoinSafely, has_no_kept}
use Rattle.scl_gnu_reading.specs.ClangRows.{clang_rows, clang_tables}
use Rattle.scl_gnu_reading.specs.GccRows.{gcc_rows}
use Rattle.scl_msvc_reading.specs.Again.{carried, carried_inner}
use Rattle.scl_msvc_reading.specs.Places.{side_of_flag}
use Rattle.scl_msvc_reading.specs.Rows.{msvc_rows, msvc_tables}

pub msvc_passes : PassChecks msvc_tables carried side_of_flag
unfolding msvc_rows
msvc_passes = record { keeps = refl; safe = refl }

pub own_joins : JoinSafely msvc_tables (codes "-Fo" ∷ codes "-Tc" ∷ codes "-Tp" ∷ codes "-clang:" ∷ [])
unfolding msvc_rows
own_joins = record { keeps = refl; safe = refl }

pub inner_passes : PassChecks clang_tables carried_inner listed.side_of_flag
unfolding gcc_rows clang_rows
inner_passes = record { keeps = refl; safe = refl }

pub xclang_alone : has_no_kept carried (codes "-Xclang") (all_rows msvc_tables) ≡ true
unfolding msvc_rows
xclang_alone = refl

pub clang_alone : has_no_kept carried (codes "-clang:") (all_rows msvc_tables) ≡ true
unfolding msvc_rows
clang_alone = refl

pub carried_plain : has_plain_flags carried (all_rows msvc_tables) ≡ true
unfolding msvc_rows
carried_plain = refl

pub carried_inner_plain : has_plain_flags carried_inner (all_rows clang_tables) ≡ true
unfolding gcc_rows clang_rows
carried_inner_plain = refl
