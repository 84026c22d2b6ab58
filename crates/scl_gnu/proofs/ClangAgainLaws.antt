use Rattle.std.proofs.Common.{ℕ, true, List, [], ◌∷◌, map, refl}
use Rattle.scl_values.specs.Each.{Each}
use Rattle.scl_values.specs.Seen.{shown}
use Rattle.scl_args.specs.Origins.{IsClear}
use Rattle.scl_args.specs.Promises.{inner_of, IsFaithful}
use Rattle.scl_text.proofs.CompilerLaws.{command-kept}
use Rattle.scl_files.specs.declared.expand.ExpansionKind.TheVariants as expansions
use Rattle.scl_text.specs.declared.records.CCompilerKind.TheVariants as compilers
use Rattle.scl_text.specs.JudgedWords.{options_of}
use Rattle.scl_text.specs.Languages.{clang_text}
use Rattle.scl_files.specs.Views.{Viewed}
use Rattle.scl_gnu.specs.Building.{command_words}
use Rattle.scl_gnu_reading.specs.ClangRows.{clang_rows, clang_tables}
use Rattle.scl_gnu_reading.specs.GccRows.{gcc_rows}
use Rattle.scl_gnu.specs.ReadAgain.{inner_options_of, behind_xclang, parts, clang_line, ClangCommandsAreFaithful}
use Rattle.scl_gnu_reading.specs.Readings.{reading}
use Rattle.scl_gnu.proofs.NoFileLaws.{clang_none}
use Rattle.scl_gnu.proofs.OwnWordsLaws.{OwnWords, AreInners}
use Rattle.scl_gnu.proofs.OwnTableLaws.{Keeps, own-tables-keep, own-words, handed-on}
use Rattle.scl_gnu.proofs.ReadAgainLaws.{commands-again}

keeps : Keeps clang_tables
unfolding gcc_rows clang_rows
keeps = own-tables-keep clang_tables refl

own_words : OwnWords clang_tables true
own_words = own-words clang_tables true keeps

handed : (directory : List ℕ) (view : Viewed) (words : List (List ℕ)) →
    let inner = inner_options_of directory view (map shown (options_of expansions.Gnu clang_tables true directory view words)) in
    Each IsClear inner → AreInners clang_tables true (map shown inner) (map inner_of (behind_xclang inner ∷ []))
handed = handed-on clang_tables true keeps

-- ---- the promise of a command

pub command_kept : ClangCommandsAreFaithful
command_kept plusplus directory view words =
    let line = clang_line directory view words in
    command-kept (λ p. command_words (clang_text p.language) p)
    (λ p object built. IsFaithful clang_tables true clang_tables line (parts (clang_text p.language) (map shown line.options) p object) object built)
    (reading compilers.Clang plusplus clang_tables directory view words)
    (λ p object e o. record {
      again = commands-again compilers.Clang clang_tables own_words clang_text (λ inner. behind_xclang inner ∷ []) handed plusplus directory view words p object e o;
      no_file = clang_none plusplus directory view words p object e o;
    })
