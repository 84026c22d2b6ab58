-- The answer to a request.
use Rattle.std.specs.Prelude.{◌≡◌, ℕ, Bool, true, false, List, [], ◌∷◌, codes, Option, None, Some, Result, Ok, Err, is_some}
use Rattle.scl_text.specs.Records.{Parsed, Verdict, CannotCache, NotCompilation}
use Rattle.scl_text.specs.declared.records.Cacheable.{Cacheable}
use Rattle.scl_text.specs.declared.records.Cacheable.TheVariants as cacheable
use Rattle.scl_values.specs.Tables.{owner_in}
use Rattle.scl_text.specs.Languages.{clang_text, gcc_text}
use Rattle.scl_text.specs.declared.records.CCompilerKind.TheVariants as kinds
use Rattle.scl_gnu.specs.Building as gcc
use Rattle.scl_gnu.specs.Preprocess.{gcc_runs, clang_runs}
use Rattle.scl_gnu_reading.specs.ClangRows.{clang_tables}
use Rattle.scl_gnu_reading.specs.GccRows.{gcc_rows}
use Rattle.scl_gnu.specs.ReadAgain.{GccReadsAgain, ClangReadsAgain}
use Rattle.scl_gnu_reading.specs.Readings as gcc_reading
use Rattle.scl_msvc.specs.Building as msvc
use Rattle.scl_msvc.specs.Environment.{surrounded_reading, without_cl_env_vars}
use Rattle.scl_msvc.specs.Preprocess as msvc_preprocess
use Rattle.scl_msvc.specs.Promises.{MsvcReadsAgain}
use Rattle.scl_small.specs.Command.{command, diab_runs, tasking_runs}
use Rattle.scl_small.specs.DiabAgain.{DiabReadsAgain}
use Rattle.scl_small.specs.DiabReading as diab
use Rattle.scl_small.specs.DiabTable as diab_table
use Rattle.scl_small.specs.TaskingAgain.{TaskingReadsAgain}
use Rattle.scl_small.specs.TaskingReading as tasking
use Rattle.scl_small.specs.TaskingTable as tasking_table
use Rattle.scl_reader.specs.declared.compiler.Compiler.{Compiler}
use Rattle.scl_reader.specs.declared.compiler.Compiler.TheVariants as compilers
use Rattle.scl_reader.specs.Apple.{is_apple}
use Rattle.scl_reader.specs.CommandLines.{Request}

pub data Answer : Type 0 where
  compiled : (words : List (List ℕ)) (kept : Cacheable) → Answer
  cannot_cache : (reason : List ℕ) (beside : Option (List ℕ)) → Answer
  not_compilation : Answer

-- the answer of a record: its command's words; a record without output `obj`, as none is that was read, would be refused
abbrev pub answer_with : Option (List (List ℕ)) → Cacheable → Answer
answer_with None kept = cannot_cache (codes "Missing object file output") None
answer_with (Some words) kept = compiled words kept

-- the answer of a reading, by the words of what was read and by whether its outcome may be kept
abbrev pub answer_from : (Parsed → Option (List (List ℕ))) → (Parsed → Cacheable) → Result Parsed Verdict → Answer
answer_from command kept (Ok parsed) = answer_with (command parsed) (kept parsed)
answer_from command kept (Err (CannotCache reason beside)) = cannot_cache reason beside
answer_from command kept (Err NotCompilation) = not_compilation

-- what a command line says to a compiler: its words, directory, environment and files
abbrev pub reading_by : Compiler → Request → Result Parsed Verdict
reading_by compilers.Gcc request = gcc_reading.reading kinds.Gcc false (gcc_rows ∷ []) request.directory request.view request.words
reading_by compilers.Gxx request = gcc_reading.reading kinds.Gcc true (gcc_rows ∷ []) request.directory request.view request.words
reading_by compilers.Clang request = gcc_reading.reading kinds.Clang false clang_tables request.directory request.view request.words
reading_by compilers.Clangxx request = gcc_reading.reading kinds.Clang true clang_tables request.directory request.view request.words
reading_by compilers.Cl request = surrounded_reading false request.directory request.environment request.view request.words
reading_by compilers.ClangCl request = surrounded_reading true request.directory request.environment request.view request.words
reading_by compilers.Diab request = diab.expanded_reading (owner_in (diab_table.rows ∷ [])) request.directory request.view.files request.words
reading_by compilers.Tasking request = tasking.reading (owner_in (tasking_table.rows ∷ [])) request.words

-- the words of a compiler's command for what was read, if it has an output `obj`
abbrev pub command_by : Compiler → Parsed → Option (List (List ℕ))
command_by compilers.Gcc parsed = gcc.command (gcc_text parsed.language) parsed
command_by compilers.Gxx parsed = gcc.command (gcc_text parsed.language) parsed
command_by compilers.Clang parsed = gcc.command (clang_text parsed.language) parsed
command_by compilers.Clangxx parsed = gcc.command (clang_text parsed.language) parsed
command_by compilers.Cl parsed = msvc.command parsed
command_by compilers.ClangCl parsed = msvc.command parsed
command_by compilers.Diab parsed = command parsed
command_by compilers.Tasking parsed = command parsed

-- the words of the runs of the preprocessor for what was read, by a compiler whose version has this text, if it is known: it says whether Clang is Apple's
abbrev pub runs_with : Option (List ℕ) → Compiler → (may_dist rewrites cache_mode : Bool) → Parsed → List (List (List ℕ))
runs_with version compilers.Gcc may_dist rewrites cache_mode parsed = gcc_runs may_dist rewrites cache_mode parsed
runs_with version compilers.Gxx may_dist rewrites cache_mode parsed = gcc_runs may_dist rewrites cache_mode parsed
runs_with version compilers.Clang may_dist rewrites cache_mode parsed = clang_runs (is_apple version) version may_dist rewrites cache_mode parsed
runs_with version compilers.Clangxx may_dist rewrites cache_mode parsed = clang_runs (is_apple version) version may_dist rewrites cache_mode parsed
runs_with version compilers.Cl may_dist rewrites cache_mode parsed = msvc_preprocess.runs false may_dist rewrites parsed
runs_with version compilers.ClangCl may_dist rewrites cache_mode parsed = msvc_preprocess.runs true may_dist rewrites parsed
runs_with version compilers.Diab may_dist rewrites cache_mode parsed = diab_runs parsed
runs_with version compilers.Tasking may_dist rewrites cache_mode parsed = tasking_runs parsed

-- the same where no version is known
abbrev pub runs_by : Compiler → (may_dist rewrites cache_mode : Bool) → Parsed → List (List (List ℕ))
runs_by compiler may_dist rewrites cache_mode parsed = runs_with None compiler may_dist rewrites cache_mode parsed

-- the environment that a compiler's command gets
abbrev pub environment_by : Compiler → List (List ℕ × List ℕ) → List (List ℕ × List ℕ)
environment_by compilers.Gcc pairs = pairs
environment_by compilers.Gxx pairs = pairs
environment_by compilers.Clang pairs = pairs
environment_by compilers.Clangxx pairs = pairs
environment_by compilers.Cl pairs = without_cl_env_vars pairs
environment_by compilers.ClangCl pairs = without_cl_env_vars pairs
environment_by compilers.Diab pairs = pairs
environment_by compilers.Tasking pairs = pairs

-- whether the outcome of what was read may be kept
abbrev pub kept_by : Compiler → Request → Parsed → Cacheable
kept_by compilers.Gcc request parsed = cacheable.Yes
kept_by compilers.Gxx request parsed = cacheable.Yes
kept_by compilers.Clang request parsed = cacheable.Yes
kept_by compilers.Clangxx request parsed = cacheable.Yes
kept_by compilers.Cl request parsed = msvc.cacheable parsed request.directory request.view
kept_by compilers.ClangCl request parsed = msvc.cacheable parsed request.directory request.view
kept_by compilers.Diab request parsed = cacheable.Yes
kept_by compilers.Tasking request parsed = cacheable.Yes

-- the answer to a request
abbrev pub answer_to : Request → Answer
answer_to request = answer_from (command_by request.compiler) (kept_by request.compiler request) (reading_by request.compiler request)

-- what it is for the words of a compiler's command for what was read to be read again
abbrev pub read_again_by : Compiler → Request → Parsed → List (List ℕ) → Type 0
read_again_by compilers.Gcc request = GccReadsAgain request.directory request.view request.words
read_again_by compilers.Gxx request = GccReadsAgain request.directory request.view request.words
read_again_by compilers.Clang request = ClangReadsAgain request.directory request.view request.words
read_again_by compilers.Clangxx request = ClangReadsAgain request.directory request.view request.words
read_again_by compilers.Cl request = MsvcReadsAgain false request.directory request.environment request.view request.words
read_again_by compilers.ClangCl request = MsvcReadsAgain true request.directory request.environment request.view request.words
read_again_by compilers.Diab request = DiabReadsAgain request.directory request.view.files request.words
read_again_by compilers.Tasking request = TaskingReadsAgain request.words

-- where the answer is a command, what was read is a record, and the two keep the promise
abbrev pub Keeps : (Parsed → List (List ℕ) → Type 0) → Result Parsed Verdict → Answer → Type 0
Keeps promise said (compiled words kept) = (parsed : Parsed) × (said ≡ Ok parsed) × promise parsed words
Keeps promise said (cannot_cache reason beside) = Unit {0}
Keeps promise said not_compilation = Unit {0}

-- where the answer to the request is a command, it is read again
abbrev pub AnswerIsReadAgain : Request → Type 0
AnswerIsReadAgain request = Keeps (read_again_by request.compiler request) (reading_by request.compiler request) (answer_to request)

abbrev pub AnswersAreReadAgain : Type 0
AnswersAreReadAgain = (request : Request) → AnswerIsReadAgain request

-- ---- records

-- where a request has a record, the record has a command, and so it is answered
abbrev pub RecordsHaveCommands : Type 0
RecordsHaveCommands = (compiler : Compiler) (request : Request) (p : Parsed) → reading_by compiler request ≡ Ok p → is_some (command_by compiler p) ≡ true
