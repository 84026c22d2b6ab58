-- Tables of a caller's own by which the commands of Gcc's and Clang's builder are read again: the conditions on their rows,
-- which can be computed.
use Rattle.std.specs.Prelude.{ℕ, Bool, not, ◌&&◌, ◌||◌, List, [], ◌∷◌, map, codes, Option, None, Some, IsTrue, IfSome}
use Rattle.std.specs.List.{list_all, list_any}
use Rattle.std.specs.Str.{bytes_eq}
use Rattle.scl_values.specs.Row.{Row, row, apart, joined, either}
use Rattle.scl_values.specs.Seen.{shown}
use Rattle.scl_values.specs.Tables.{all_rows}
use Rattle.scl_args.specs.Options.{side_of_flag}
use Rattle.scl_args.specs.Checks.{is_changing, is_joining, keeps_flags, joins_safely, has_no_kept}
use Rattle.scl_args.specs.Commands.{IsReadAgain}
use Rattle.scl_args.specs.OwnWords.{OwnWord, apart_or_either, is_owned, is_bare, may_stand_apart}
use Rattle.scl_args.specs.Promises.{said_by}
use Rattle.scl_files.specs.Views.{Viewed}
use Rattle.scl_text.specs.Commands.{command_by, object_of}
use Rattle.scl_text.specs.Compilers.{IfCommand}
use Rattle.scl_text.specs.Records.{Parsed}
use Rattle.scl_text.specs.declared.language.Language.{Language}
use Rattle.scl_text.specs.declared.records.CCompilerKind.{CCompilerKind}
use Rattle.scl_gnu_reading.specs.contracts.gcc.data.KindPartialEq.TheImpl as kinds
use Rattle.scl_gnu_reading.specs.declared.gcc.data.Kind.{Kind}
use Rattle.scl_gnu_reading.specs.declared.gcc.data.Kind.TheVariants as kind
use Rattle.scl_gnu_reading.specs.Again.{carried}
use Rattle.scl_gnu_reading.specs.ClangRows.{clang_tables}
use Rattle.scl_gnu_reading.specs.Readings.{reading}
use Rattle.scl_gnu_reading.specs.Recordings.{is_clang}
use Rattle.scl_gnu.specs.Building.{command_words}
use Rattle.scl_gnu.specs.ReadAgain.{line_of, behind_xclang, parts}

-- ---- the words that commands add

abbrev pub own_words : List (OwnWord Kind)
own_words =
    record { word = codes "-x"; rows = row (codes "-x") kind.Language (either None) ∷ [] } ∷
    record { word = codes "-o"; rows = row (codes "-o") kind.Output (either None) ∷ [] } ∷
    record { word = codes "-fdiagnostics-color=always"; rows = row (codes "-fdiagnostics-color") kind.DiagnosticsColor (joined (Some 61)) ∷ [] } ∷
    record { word = codes "-D"; rows = row (codes "-D") kind.PassThrough (either None) ∷ [] } ∷
    apart_or_either (codes "-MF") kind.DepArgumentPath ∷
    apart_or_either (codes "-MT") kind.DepTarget ∷
    record { word = codes "-Xclang"; rows = row (codes "-Xclang") kind.XClang apart ∷ [] } ∷ []

-- ---- conditions on rows of a kind

abbrev pub is_kind : Kind → Kind → Bool
is_kind k other = list_any (λ x. kinds.ghosts.eq x other) (k ∷ [])

-- a flag that requests a compilation takes no value
abbrev pub compiles_bare : Row Kind → Bool
compiles_bare row = not (is_kind kind.DoCompilation row.kind) || is_bare row.shape

-- a flag with a target may take the next word
abbrev pub targets_apart : Row Kind → Bool
targets_apart row = not (is_kind kind.DepTarget row.kind) || may_stand_apart row.shape

-- and it is not the flag for inner words
abbrev pub targets_otherwise : Row Kind → Bool
targets_otherwise row = not (is_kind kind.DepTarget row.kind) || not (bytes_eq row.flag (codes "-Xclang"))

-- ---- the conditions

-- Whether commands by the tables are read again: their own words have the owners above; no printed option is cut differently
-- (both checks of tables); and no list carries an option with the flag for inner words.
abbrev pub keep_own_words : List (List (Row Kind)) → Bool
keep_own_words tables =
    list_all (is_owned kinds.ghosts.eq tables) own_words
    && (keeps_flags (is_changing carried) (all_rows tables)
    && (joins_safely (is_joining side_of_flag) (all_rows tables) (all_rows tables)
    && (list_all compiles_bare (all_rows tables)
    && (list_all targets_apart (all_rows tables)
    && (list_all targets_otherwise (all_rows tables)
    && has_no_kept carried (codes "-Xclang") (all_rows tables))))))

-- ---- the promise

-- of words in a directory with a view, and of their record by the tables: the command's words, cut again by the tables, say
-- what the words say
abbrev pub OwnCommandIsReadAgain : CCompilerKind → List (List (Row Kind)) → (Language → Option (List ℕ)) → List ℕ → Viewed → List (List ℕ) → Parsed → List (List ℕ) → Type 0
OwnCommandIsReadAgain compiler tables text directory view words p command = IfSome (object_of p) (λ object.
    let line = line_of tables (is_clang compiler) (λ inner. behind_xclang inner ∷ []) directory view words in
    IsReadAgain tables (is_clang compiler) clang_tables (said_by line) (parts (text p.language) (map shown line.options) p object) command)

-- for all tables that satisfy the conditions, and any texts of languages
abbrev pub OwnCommandsAreReadAgain : Type 0
OwnCommandsAreReadAgain =
    (compiler : CCompilerKind) (tables : List (List (Row Kind))) (text : Language → Option (List ℕ)) → IsTrue (keep_own_words tables) →
    (plusplus : Bool) (directory : List ℕ) (view : Viewed) (words : List (List ℕ)) →
    IfCommand (command_by (λ p. command_words (text p.language) p)) (OwnCommandIsReadAgain compiler tables text directory view words) (reading compiler plusplus tables directory view words)
