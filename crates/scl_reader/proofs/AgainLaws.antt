use Rattle.std.proofs.Common.{◌≡◌, ℕ, true, false, List, [], ◌∷◌, Option, None, Some, Result, Ok, Err, refl}
use Rattle.std.specs.Option.{option_map}
use Rattle.std.specs.Prelude.{IfSome, is_some}
use Rattle.scl_files.specs.Expand.{expand}
use Rattle.scl_files.specs.declared.expand.ExpansionKind.TheVariants as expansions
use Rattle.scl_text.specs.Commands.{object_of}
use Rattle.scl_text.specs.Compilers.{IfCommand}
use Rattle.scl_text.specs.Records.{Parsed, Verdict, CannotCache, NotCompilation}
use Rattle.scl_text.specs.declared.records.Cacheable.{Cacheable}
use Rattle.scl_text.specs.declared.records.CCompilerKind.TheVariants as kinds
use Rattle.scl_gnu.proofs.ClangAgainLaws as clang
use Rattle.scl_gnu.proofs.GccAgainLaws as gcc
use Rattle.scl_gnu.proofs.RecordLaws as gnu
use Rattle.scl_gnu_reading.specs.ClangRows.{clang_tables}
use Rattle.scl_gnu_reading.specs.GccRows.{gcc_rows}
use Rattle.scl_msvc.proofs.PromiseLaws as msvc
use Rattle.scl_msvc.proofs.RecordLaws as msvc_records
use Rattle.scl_small.proofs.DiabAgainLaws as diab
use Rattle.scl_small.proofs.TaskingAgainLaws as tasking
use Rattle.scl_reader.specs.declared.compiler.Compiler.{Compiler}
use Rattle.scl_reader.specs.declared.compiler.Compiler.TheVariants as compilers
use Rattle.scl_reader.specs.Answers.{answer_with, answer_from, reading_by, command_by, kept_by, read_again_by, Keeps, AnswersAreReadAgain, RecordsHaveCommands}
use Rattle.scl_reader.specs.CommandLines.{Request}

answer-with : (promise : Parsed → List (List ℕ) → Type 0) (p : Parsed) (words : Option (List (List ℕ))) (kept : Cacheable) → IfSome words (promise p) → Keeps promise (Ok p) (answer_with words kept)
answer-with promise p None kept h = tt
answer-with promise p (Some words) kept h = (p, refl, h)

answer-from : (command : Parsed → Option (List (List ℕ))) (kept : Parsed → Cacheable) (promise : Parsed → List (List ℕ) → Type 0) (said : Result Parsed Verdict) →
    IfCommand command promise said → Keeps promise said (answer_from command kept said)
answer-from command kept promise (Ok p) h = answer-with promise p (command p) (kept p) h
answer-from command kept promise (Err (CannotCache reason beside)) h = tt
answer-from command kept promise (Err NotCompilation) h = tt

command_kept : (compiler : Compiler) (request : Request) → IfCommand (command_by compiler) (read_again_by compiler request) (reading_by compiler request)
command_kept compilers.Gcc request = gcc.command_kept false request.directory request.view request.words
command_kept compilers.Gxx request = gcc.command_kept true request.directory request.view request.words
command_kept compilers.Clang request = clang.command_kept false request.directory request.view request.words
command_kept compilers.Clangxx request = clang.command_kept true request.directory request.view request.words
command_kept compilers.Cl request = msvc.command_kept false request.directory request.environment request.view request.words
command_kept compilers.ClangCl request = msvc.command_kept true request.directory request.environment request.view request.words
command_kept compilers.Diab request = diab.command_kept request.directory request.view.files request.words
command_kept compilers.Tasking request = tasking.command_kept request.words

pub answers_again : AnswersAreReadAgain
answers_again request =
    answer-from (command_by request.compiler) (kept_by request.compiler request) (read_again_by request.compiler request) (reading_by request.compiler request) (command_kept request.compiler request)

-- ---- the command of a record

some-mapped : {A B : Type 0} (f : A → B) (o : Option A) → is_some o ≡ true → is_some (option_map f o) ≡ true
some-mapped f None e = absurd (cc)
some-mapped f (Some x) e = refl

pub have-commands : RecordsHaveCommands
have-commands compilers.Gcc request p e = some-mapped _ (object_of p) (gnu.have-objects kinds.Gcc (gcc_rows ∷ []) false request.directory request.view request.words p e)
have-commands compilers.Gxx request p e = some-mapped _ (object_of p) (gnu.have-objects kinds.Gcc (gcc_rows ∷ []) true request.directory request.view request.words p e)
have-commands compilers.Clang request p e = some-mapped _ (object_of p) (gnu.have-objects kinds.Clang clang_tables false request.directory request.view request.words p e)
have-commands compilers.Clangxx request p e = some-mapped _ (object_of p) (gnu.have-objects kinds.Clang clang_tables true request.directory request.view request.words p e)
have-commands compilers.Cl request p e = some-mapped _ (object_of p) (msvc_records.have-objects false request.directory request.environment request.view request.words p e)
have-commands compilers.ClangCl request p e = some-mapped _ (object_of p) (msvc_records.have-objects true request.directory request.environment request.view request.words p e)
have-commands compilers.Diab request p e = some-mapped _ (object_of p) (diab.has_object (expand expansions.Diab request.directory request.view.files request.words) p e)
have-commands compilers.Tasking request p e = some-mapped _ (object_of p) (tasking.has_object request.words p e)
