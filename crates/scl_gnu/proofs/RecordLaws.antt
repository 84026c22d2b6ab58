-- What is known of every record that was read: it has an object, and no option of an either row in its line has an empty
-- value.
use Rattle.std.proofs.Common.{◌≡◌, List, [], ◌∷◌, Some, sym, ap, ◌∙◌}
use Rattle.std.specs.Prelude.{map, is_some}
use Rattle.scl_values.specs.Row.{Row}
use Rattle.scl_values.specs.Seen.{shown}
use Rattle.scl_files.specs.declared.expand.ExpansionKind.TheVariants as expansions
use Rattle.scl_text.specs.declared.records.CCompilerKind.{CCompilerKind}
use Rattle.scl_text.specs.declared.records.CCompilerKind.TheVariants as compilers
use Rattle.scl_text.specs.Commands.{object_of}
use Rattle.scl_text.specs.JudgedWords.{options_of}
use Rattle.scl_gnu_reading.specs.declared.gcc.data.Kind.{Kind}
use Rattle.scl_gnu_reading.specs.ClangRows.{clang_tables}
use Rattle.scl_gnu_reading.specs.GccRows.{gcc_rows}
use Rattle.scl_gnu_reading.specs.Recordings.{is_clang}
use Rattle.scl_gnu.specs.ReadAgain.{inner_options_of, RecordsHaveObjects, GccLinesHaveNoEmpty, ClangLinesHaveNoEmpty}
use Rattle.scl_gnu.proofs.ReadingLaws.{is-read}
use Rattle.scl_gnu_reading.proofs.ObjectLaws.{object-found}

pub have-objects : (compiler : CCompilerKind) (tables : List (List (Row Kind))) → RecordsHaveObjects compiler tables
have-objects compiler tables plusplus directory view words p e =
    let r = is-read compiler plusplus tables directory view words p e in
    let os = map shown (options_of expansions.Gnu tables (is_clang compiler) directory view words) in
    let found = object-found compiler directory view os (map shown (inner_options_of directory view os)) r.tested in
    let has : object_of p ≡ Some r.tested.object = sym (ap object_of r.is) ∙ found in
    ap is_some has

pub gcc-has-no-empty : GccLinesHaveNoEmpty
gcc-has-no-empty plusplus directory view words p e =
    let r = is-read compilers.Gcc plusplus (gcc_rows ∷ []) directory view words p e in
    record { outer = r.clear; inner = tt }

pub clang-has-no-empty : ClangLinesHaveNoEmpty
clang-has-no-empty plusplus directory view words p e =
    let r = is-read compilers.Clang plusplus clang_tables directory view words p e in
    record { outer = r.clear; inner = (r.inner_clear, tt) }
