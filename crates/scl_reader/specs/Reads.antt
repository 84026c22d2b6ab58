-- A command line of any compiler that is served, read, and what its reading says.
use Rattle.std.specs.Prelude.{◌≡◌, ℕ, Bool, true, false, List, [], ◌∷◌, ◌++◌, length, map, Option, Result, Ok, Err, if◌then◌else◌}
use Rattle.scl_files.specs.Expanded.{ExpandedWords, expanded_by, standing}
use Rattle.scl_files.specs.Sources.{indices}
use Rattle.scl_files.specs.declared.expand.ExpansionKind.{ExpansionKind}
use Rattle.scl_files.specs.declared.expand.ExpansionKind.TheVariants as expansions
use Rattle.scl_gnu_reading.specs.ClangRows.{clang_tables}
use Rattle.scl_gnu_reading.specs.GccRows.{gcc_rows}
use Rattle.scl_gnu_reading.specs.Reads as gnu
use Rattle.scl_gnu_reading.specs.Recordings.{is_clang}
use Rattle.scl_gnu_reading.specs.declared.gcc.data.Kind.{Kind}
use Rattle.scl_msvc.specs.Reads.{surrounded_read}
use Rattle.scl_small.specs.DiabReading as diab
use Rattle.scl_small.specs.DiabTable as diab_table
use Rattle.scl_small.specs.Reads as small
use Rattle.scl_small.specs.TaskingReading as tasking
use Rattle.scl_small.specs.TaskingTable as tasking_table
use Rattle.scl_small.specs.declared.diab.data.Kind as diab_kinds
use Rattle.scl_small.specs.declared.tasking_vx.data.Kind as tasking_kinds
use Rattle.scl_text.specs.Records.{Parsed, Verdict}
use Rattle.scl_text.specs.declared.records.CCompilerKind.{CCompilerKind}
use Rattle.scl_text.specs.declared.records.CCompilerKind.TheVariants as kinds
use Rattle.scl_values.specs.Row.{Row}
use Rattle.scl_values.specs.Tables.{owner_in}
use Rattle.scl_reader.specs.Answers.{reading_by, runs_with}
use Rattle.scl_reader.specs.CommandLines.{Given, Request, given_in}
use Rattle.scl_reader.specs.declared.compiler.Compiler.{Compiler}
use Rattle.scl_reader.specs.declared.compiler.Compiler.TheVariants as compilers
use Rattle.scl_reader.specs.declared.reading.LackedFile.{LackedFile}
use Rattle.scl_reader.specs.declared.reading.Reading.{Reading}
use Rattle.scl_reader.specs.declared.reading.Reading.TheVariants.{Gnu, Msvc, Diab, Tasking}

-- ---- readings

-- the words of a line with response files of the kind put in place
abbrev pub expanded : ExpansionKind → Given → ExpandedWords
expanded kind g = expanded_by kind g.directory g.view.files g.words (indices (length g.words))

abbrev pub gnu_read : CCompilerKind → Bool → List (List (Row Kind)) → Given → gnu.GnuRead
gnu_read kind plusplus tables g = gnu.read_by kind plusplus tables g.directory g.view (expanded expansions.Gnu g)

abbrev pub diab_read : Given → small.SmallRead diab_kinds.Kind
diab_read g = small.read_by diab.verdict diab.tested (owner_in (diab_table.rows ∷ [])) (expanded expansions.Diab g)

-- no file is put in place
abbrev pub tasking_read : Given → small.SmallRead tasking_kinds.Kind
tasking_read g = small.read_by tasking.verdict tasking.tested (owner_in (tasking_table.rows ∷ [])) (standing g.words (indices (length g.words)))

-- the reading of a command line by a compiler
abbrev pub read_by : Compiler → Given → Reading
read_by compilers.Gcc g = Gnu (gnu_read kinds.Gcc false (gcc_rows ∷ []) g)
read_by compilers.Gxx g = Gnu (gnu_read kinds.Gcc true (gcc_rows ∷ []) g)
read_by compilers.Clang g = Gnu (gnu_read kinds.Clang false clang_tables g)
read_by compilers.Clangxx g = Gnu (gnu_read kinds.Clang true clang_tables g)
read_by compilers.Cl g = Msvc (surrounded_read false g.directory g.environment g.view g.words)
read_by compilers.ClangCl g = Msvc (surrounded_read true g.directory g.environment g.view g.words)
read_by compilers.Diab g = Diab (diab_read g)
read_by compilers.Tasking g = Tasking (tasking_read g)

abbrev pub read_of : Request → Reading
read_of request = read_by request.compiler (given_in request)

-- ---- what a reading says

-- the driver of this kind
abbrev pub gnu_compiler : CCompilerKind → Bool → Compiler
gnu_compiler kind false = if is_clang kind then compilers.Clang else compilers.Gcc
gnu_compiler kind true = if is_clang kind then compilers.Clangxx else compilers.Gxx

abbrev pub msvc_compiler : Bool → Compiler
msvc_compiler false = compilers.Cl
msvc_compiler true = compilers.ClangCl

-- the compiler that read it
abbrev pub compiler_of : Reading → Compiler
compiler_of (Gnu r) = gnu_compiler r.compiler r.plusplus
compiler_of (Msvc r) = msvc_compiler r.is_clang
compiler_of (Diab r) = compilers.Diab
compiler_of (Tasking r) = compilers.Tasking

-- the record, or the refusal
abbrev pub outcome_in : Reading → Result Parsed Verdict
outcome_in (Gnu r) = r.outcome
outcome_in (Msvc r) = r.outcome
outcome_in (Diab r) = r.outcome
outcome_in (Tasking r) = r.outcome

-- the runs of the preprocessor for what was read, by a compiler whose version has this text, if it is known
abbrev pub runs_for : Option (List ℕ) → Compiler → (may_dist rewrites cache_mode : Bool) → Result Parsed Verdict → List (List (List ℕ))
runs_for version compiler may_dist rewrites cache_mode (Ok parsed) = runs_with version compiler may_dist rewrites cache_mode parsed
runs_for version compiler may_dist rewrites cache_mode (Err verdict) = []

abbrev pub runs_in : Option (List ℕ) → (may_dist rewrites cache_mode : Bool) → Reading → List (List (List ℕ))
runs_in version may_dist rewrites cache_mode r = runs_for version (compiler_of r) may_dist rewrites cache_mode (outcome_in r)

-- a response file that is lacked: whose it is, and its path
pub record Lacked : Type 0 where
  pub kind : ExpansionKind
  pub path : List ℕ

abbrev pub named_by : ExpansionKind → List (List ℕ) → List Lacked
named_by kind paths = map (λ path. record { kind = kind; path = path }) paths

-- the files that the command lines ask for and the view lacks. (The inner line of Gcc and Clang asks for none besides: `WholeReadingsAreDecided`.)
abbrev pub files_lacked : Reading → List Lacked
files_lacked (Gnu r) = named_by expansions.Gnu r.outer.lacked
files_lacked (Msvc r) = named_by expansions.Msvc r.outer.lacked ++ named_by expansions.Gnu r.xclang.lacked ++ named_by expansions.Gnu r.clang.lacked
files_lacked (Diab r) = named_by expansions.Diab r.outer.lacked
files_lacked (Tasking r) = []

-- what the code gives
abbrev pub lacked_of : List LackedFile → List Lacked
lacked_of files = map (λ file. record { kind = file.kind; path = file.path.items }) files

-- ---- a law

-- a reading is by the compiler of the request, and says what the words say
pub record IsReadBy (request : Request) : Type 0 where
  pub compiler : compiler_of (read_of request) ≡ request.compiler
  pub outcome : outcome_in (read_of request) ≡ reading_by request.compiler request

abbrev pub ReadingsSay : Type 0
ReadingsSay = (request : Request) → IsReadBy request
