use Rattle.std.proofs.Common.{◌≡◌, ℕ, false, true, List, Result, Ok, Err, refl}
use Rattle.std.specs.Prelude.{IfOk}
use Rattle.scl_values.specs.Words.{words_of}
use Rattle.scl_files.specs.Views.{Viewed}
use Rattle.scl_text.specs.Commands.{command_by}
use Rattle.scl_text.specs.Compilers.{IsBuiltCommand}
use Rattle.scl_text.specs.Languages.{gcc_text}
use Rattle.scl_text.specs.Records.{Parsed}
use Rattle.scl_text.specs.declared.records.CCompilerKind.TheVariants as compilers
use Rattle.scl_text.specs.declared.records.Cacheable.{Cacheable}
use Rattle.scl_text.specs.declared.records.SingleCompileCommand.{SingleCompileCommand}
use Rattle.scl_text.proofs.CompilerLaws.{words-kept}
use Rattle.scl_gnu.specs.Building.{command_words}
use Rattle.scl_gnu.specs.OwnTables.{keep_own_words, OwnCommandIsReadAgain}
use Rattle.scl_gnu.proofs.OwnTableLaws.{commands_kept}
use Rattle.scl_gnu_reading.specs.ClangRows.{clang_rows}
use Rattle.scl_gnu_reading.specs.GccRows.{gcc_rows}
use Rattle.scl_gnu_reading.specs.Readings.{reading}
use Rattle.nvcc_example.specs.Nvcc.{nvcc_rows, nvcc_tables}

-- the tables keep what the builder's own words ask of them
keeps : keep_own_words nvcc_tables ≡ true
unfolding gcc_rows clang_rows nvcc_rows
keeps = refl

-- so a built command of a record that words have by these tables is read again by them
pub build-kept : {E : Type 0} (p : Parsed) (executable : List ℕ) (env_vars : List (List ℕ × List ℕ)) (cwd : List ℕ) (cacheable : Cacheable) (r : Result (SingleCompileCommand × Cacheable) E) →
    IfOk r (λ built. IsBuiltCommand built.0 built.1 (command_by (λ p. command_words (gcc_text p.language) p) p) executable env_vars cwd cacheable) →
    IfOk r (λ built. (directory : List ℕ) (files : Viewed) (words : List (List ℕ)) → reading compilers.Gcc false nvcc_tables directory files words ≡ Ok p →
    OwnCommandIsReadAgain compilers.Gcc nvcc_tables gcc_text directory files words p (words_of built.0.arguments.items))
build-kept p executable env_vars cwd cacheable (Ok built) is = λ directory files words e.
    words-kept (command_by (λ p. command_words (gcc_text p.language) p)) (OwnCommandIsReadAgain compilers.Gcc nvcc_tables gcc_text directory files words)
    (reading compilers.Gcc false nvcc_tables directory files words) (commands_kept compilers.Gcc nvcc_tables gcc_text keeps false directory files words) p (words_of built.0.arguments.items) is.words_are e
build-kept p executable env_vars cwd cacheable (Err e) is = tt
