use Rattle.std.proofs.Common.{ℕ, false, List, [], ◌∷◌, ◌++◌, map, Option, None, Some, refl, sym, ap}
use Rattle.std.specs.Prelude.{codes}
use Rattle.scl_values.specs.Each.{Each}
use Rattle.scl_args.specs.Options.{side_of_flag}
use Rattle.scl_values.specs.Row.{Row, row, apart, joined, either}
use Rattle.scl_values.specs.Seen.{shown}
use Rattle.scl_values.specs.Tables.{owner_in, all_rows}
use Rattle.scl_args.proofs.OwnerLaws.{owner_in-is}
use Rattle.scl_args.specs.Checks.{is_changing, is_joining}
use Rattle.scl_args.specs.Origins.{IsClear}
use Rattle.scl_args.specs.Promises.{IsFaithful}
use Rattle.scl_args.proofs.FreshLaws.{fresh-either}
use Rattle.scl_args.proofs.OriginLaws.{has_row}
use Rattle.scl_args.proofs.ReadsLaws.{reads-apart, reads-either_apart, reads-joined}
use Rattle.scl_text.proofs.CompilerLaws.{command-kept}
use Rattle.scl_files.specs.declared.expand.ExpansionKind.TheVariants as expansions
use Rattle.scl_text.specs.declared.records.CCompilerKind.TheVariants as compilers
use Rattle.scl_text.specs.JudgedWords.{options_of}
use Rattle.scl_text.specs.Languages.{gcc_text}
use Rattle.scl_files.specs.Views.{Viewed}
use Rattle.scl_gnu_reading.specs.declared.gcc.data.Kind.{Kind}
use Rattle.scl_gnu_reading.specs.declared.gcc.data.Kind.TheVariants as kind
use Rattle.scl_gnu_reading.specs.Again.{carried}
use Rattle.scl_gnu.specs.Building.{command_words}
use Rattle.scl_gnu_reading.specs.ClangRows.{clang_tables}
use Rattle.scl_gnu_reading.specs.GccRows.{gcc_rows}
use Rattle.scl_gnu_reading.specs.Inners.{inner_words_at}
use Rattle.scl_gnu.specs.ReadAgain.{inner_options_of, parts, gcc_line, GccCommandsAreFaithful}
use Rattle.scl_gnu_reading.specs.Readings.{reading}
use Rattle.scl_gnu_reading.proofs.CheckLaws.{gcc_passes}
use Rattle.scl_gnu.proofs.InnerLaws.{no_inner}
use Rattle.scl_gnu.proofs.NoFileLaws.{gcc_none}
use Rattle.scl_gnu.proofs.OwnWordsLaws.{OwnWords, AreInners}
use Rattle.scl_gnu.proofs.ReadAgainLaws.{commands-again}

abbrev tables : List (List (Row Kind))
tables = gcc_rows ∷ []

abbrev own : List ℕ → Option (Row Kind)
own = owner_in tables

language_row : Row Kind
language_row = row (codes "-x") kind.Language (either None)

output_row : Row Kind
output_row = row (codes "-o") kind.Output (either None)

color_row : Row Kind
color_row = row (codes "-fdiagnostics-color") kind.DiagnosticsColor (joined (Some 61))

define_row : Row Kind
define_row = row (codes "-D") kind.PassThrough (either None)

depfile_row : Row Kind
depfile_row = row (codes "-MF") kind.DepArgumentPath apart

target_row : Row Kind
target_row = row (codes "-MT") kind.DepTarget apart

own_words : OwnWords tables false
unfolding gcc_rows language_row output_row color_row define_row depfile_row target_row
own_words = record {
  pass = gcc_passes;
  language = λ text. reads-either_apart own false language_row None text refl (record { is = refl; no_mark = refl });
  output = λ object. reads-either_apart own false output_row None object refl (record { is = refl; no_mark = refl });
  color = reads-joined own false color_row (Some 61) (codes "always") refl (record { is = refl; no_mark = refl });
  define = λ path. fresh-either own false (all_rows tables) (owner_in-is tables) (is_changing carried) (is_joining side_of_flag) gcc_passes.keeps gcc_passes.safe define_row
      (has_row own false (all_rows tables) (owner_in-is tables) define_row (codes "-D") (record { is = refl; no_mark = refl })) refl refl refl 95 (codes "gsplit_dwarf_path=" ++ path);
  depfile = λ path. reads-apart own false depfile_row path refl (record { is = refl; no_mark = refl });
  target = λ path. reads-apart own false target_row path refl (record { is = refl; no_mark = refl });
  compile_flags = refl;
  target_flags = refl;
  other_flags = refl;
}

-- ---- inner command lines

handed : (directory : List ℕ) (view : Viewed) (words : List (List ℕ)) →
    let inner = inner_options_of directory view (map shown (options_of expansions.Gnu tables false directory view words)) in
    Each IsClear inner → AreInners tables false (map shown inner) []
handed directory view words clear = record {
  are = tt;
  own_flags = tt;
  flags = tt;
  words_are = λ there. sym (ap (inner_words_at there) (no_inner directory view words));
}

-- ---- the promise of a command

pub command_kept : GccCommandsAreFaithful
command_kept plusplus directory view words =
    let line = gcc_line directory view words in
    command-kept (λ p. command_words (gcc_text p.language) p)
    (λ p object built. IsFaithful tables false clang_tables line (parts (gcc_text p.language) (map shown line.options) p object) object built)
    (reading compilers.Gcc plusplus tables directory view words)
    (λ p object e o. record {
      again = commands-again compilers.Gcc tables own_words gcc_text (λ inner. []) handed plusplus directory view words p object e o;
      no_file = gcc_none plusplus directory view words p object e o;
    })
