-- Commands of Gcc and Clang that are read again.
use Rattle.std.specs.Prelude.{◌≡◌, ℕ, Bool, true, false, List, [], ◌∷◌, ◌++◌, map, codes, Option, None, Some, Ok, IfSome, unwrap_or, is_some}
use Rattle.scl_values.specs.Cuts.{Cut}
use Rattle.scl_args.specs.Options.{last_flag, last_text, texts}
use Rattle.scl_values.specs.Row.{Row}
use Rattle.scl_values.specs.Seen.{Seen, Plain, shown}
use Rattle.scl_values.specs.Seen as plain
use Rattle.scl_args.specs.Commands.{CommandList, Parts}
use Rattle.scl_args.specs.Origins.{input_words}
use Rattle.scl_args.specs.Promises.{HandedOn, Line, HasNoEmpty, IsFaithful}
use Rattle.scl_files.specs.declared.expand.ExpansionKind.TheVariants as expansions
use Rattle.scl_text.specs.declared.language.Language.{Language}
use Rattle.scl_text.specs.declared.records.CCompilerKind.{CCompilerKind}
use Rattle.scl_text.specs.declared.records.CCompilerKind.TheVariants as compilers
use Rattle.scl_text.specs.declared.records.ColorMode.{ColorMode}
use Rattle.scl_text.specs.declared.records.ColorMode.TheVariants as colors
use Rattle.scl_text.specs.Commands.{command_by, object_of}
use Rattle.scl_text.specs.Compilers.{IfCommand}
use Rattle.scl_text.specs.JudgedWords.{options_of}
use Rattle.scl_text.specs.Languages.{gcc_text, clang_text}
use Rattle.scl_files.specs.Paths.{with_extension}
use Rattle.scl_text.specs.Records.{Parsed}
use Rattle.scl_files.specs.Views.{Viewed}
use Rattle.scl_gnu_reading.specs.declared.gcc.data.Kind.{Kind}
use Rattle.scl_gnu_reading.specs.declared.gcc.data.Kind.TheVariants as kind
use Rattle.scl_gnu_reading.specs.declared.gcc.place.Place.{Place}
use Rattle.scl_gnu_reading.specs.declared.gcc.place.Place.TheVariants as places
use Rattle.scl_gnu.specs.Building.{command_words}
use Rattle.scl_gnu_reading.specs.ClangRows.{clang_tables}
use Rattle.scl_gnu_reading.specs.GccRows.{gcc_rows}
use Rattle.scl_gnu_reading.specs.Inners.{goes_inside_to}
use Rattle.scl_gnu_reading.specs.Kinds.{of, any}
use Rattle.scl_gnu_reading.specs.Places.{goes_to}
use Rattle.scl_gnu_reading.specs.Readings.{reading}
use Rattle.scl_gnu_reading.specs.Recordings.{needs_target}

-- ---- what a command is made of

abbrev pub language_option : Option (List ℕ) → List (Plain Kind)
language_option None = []
language_option (Some text) = plain.value (codes "-x") kind.Language text ∷ []

abbrev pub color_option : ColorMode → List (Plain Kind)
color_option colors.Off = []
color_option colors.On = plain.value (codes "-fdiagnostics-color") kind.DiagnosticsColor (codes "always") ∷ []
color_option colors.Auto = plain.value (codes "-fdiagnostics-color") kind.DiagnosticsColor (codes "always") ∷ []

-- the path of split debug information, if it is requested
abbrev pub split_dwarf_option : Bool → List ℕ → List (Plain Kind)
split_dwarf_option true object = plain.value (codes "-D") kind.PassThrough (codes "_gsplit_dwarf_path=" ++ with_extension object (codes "dwo")) ∷ []
split_dwarf_option false object = []

-- the path of the dependency file, unless the line has one
abbrev pub depfile_option : Bool → List ℕ → List (Plain Kind)
depfile_option true object = []
depfile_option false object = plain.value (codes "-MF") kind.DepArgumentPath (with_extension object (codes "d")) ∷ []

-- the target of dependencies and their file, if a target is needed
abbrev pub target_options : (is_needed has_path : Bool) (flag target : Option (List ℕ)) → List ℕ → List (Plain Kind)
target_options true has_path flag target object = plain.value (unwrap_or flag (codes "-MT")) kind.DepTarget (unwrap_or target object) ∷ depfile_option has_path object
target_options false has_path flag target object = []

-- the list of the outer and inner options of this place, and of what is added
abbrev pub list_of : Place → List (Plain Kind) → CommandList Kind Kind
list_of there added = record { carries = goes_to there; carries_inner = goes_inside_to there; added = added }

-- the parts of a record's command, with this text for the language and this object file, if these are the options of the
-- command line
abbrev pub parts : Option (List ℕ) → List (Seen Kind) → Parsed → List ℕ → Parts Kind Kind
parts text os p object = record {
  front = language_option text ++ plain.flag p.compilation_flag kind.DoCompilation ∷ plain.value (codes "-o") kind.Output object ∷ [];
  lists =
      list_of places.Preprocessor [] ∷
      list_of places.Dependency (target_options (needs_target p.language os) (is_some (last_text (of (kind.DepArgumentPath ∷ [])) os))
      (last_flag (of (kind.DepTarget ∷ [])) os) (last_text (of (kind.DepTarget ∷ [])) os) object) ∷
      list_of places.Unhashed [] ∷
      list_of places.Common (split_dwarf_option (any (kind.SplitDwarf ∷ []) os) object) ∷
      list_of places.Arch [] ∷ [];
  back = color_option p.color_mode ++ map plain.raw (input_words p.double_dash_input p.input);
}

-- ---- what a command line says

-- the inner options in the outer ones
abbrev pub inner_options_of : List ℕ → Viewed → List (Seen Kind) → List (Cut Kind)
inner_options_of directory view os = options_of expansions.Gnu clang_tables false directory view (texts (of (kind.XClang ∷ [])) os)

-- ---- the promise of a command

-- what a command line is cut into by the tables, and how its inner options are passed on
abbrev pub line_of : List (List (Row Kind)) → Bool → (List (Cut Kind) → List (HandedOn Kind Kind)) → List ℕ → Viewed → List (List ℕ) → Line Kind Kind
line_of tables dashes handed_on directory view words =
    let options = options_of expansions.Gnu tables dashes directory view words in
    record { options = options; handed_on = handed_on (inner_options_of directory view (map shown options)) }

-- Gcc has no flag for inner words
abbrev pub gcc_line : List ℕ → Viewed → List (List ℕ) → Line Kind Kind
gcc_line directory view words = line_of (gcc_rows ∷ []) false (λ inner. []) directory view words

abbrev pub behind_xclang : List (Cut Kind) → HandedOn Kind Kind
behind_xclang inner = record { flag = codes "-Xclang"; kind = kind.XClang; options = inner }

abbrev pub clang_line : List ℕ → Viewed → List (List ℕ) → Line Kind Kind
clang_line directory view words = line_of clang_tables true (λ inner. behind_xclang inner ∷ []) directory view words

-- what it means for the words of a record's command that they are read again and name no response file of their own, if the
-- command line has these words
abbrev pub GccReadsAgain : List ℕ → Viewed → List (List ℕ) → Parsed → List (List ℕ) → Type 0
GccReadsAgain directory view words p command = IfSome (object_of p) (λ object.
    let line = gcc_line directory view words in
    IsFaithful (gcc_rows ∷ []) false clang_tables line (parts (gcc_text p.language) (map shown line.options) p object) object command)

abbrev pub ClangReadsAgain : List ℕ → Viewed → List (List ℕ) → Parsed → List (List ℕ) → Type 0
ClangReadsAgain directory view words p command = IfSome (object_of p) (λ object.
    let line = clang_line directory view words in
    IsFaithful clang_tables true clang_tables line (parts (clang_text p.language) (map shown line.options) p object) object command)

-- ---- the law of a compiler

-- if words have a record by these tables, its command with this text for the language keeps the promise
abbrev pub CommandsAreFaithful : CCompilerKind → List (List (Row Kind)) → (Language → Option (List ℕ)) → (List ℕ → Viewed → List (List ℕ) → Parsed → List (List ℕ) → Type 0) → Type 0
CommandsAreFaithful compiler tables text promise =
    (plusplus : Bool) (directory : List ℕ) (view : Viewed) (words : List (List ℕ)) →
    IfCommand (command_by (λ p. command_words (text p.language) p)) (promise directory view words) (reading compiler plusplus tables directory view words)

abbrev pub GccCommandsAreFaithful : Type 0
GccCommandsAreFaithful = CommandsAreFaithful compilers.Gcc (gcc_rows ∷ []) gcc_text GccReadsAgain

abbrev pub ClangCommandsAreFaithful : Type 0
ClangCommandsAreFaithful = CommandsAreFaithful compilers.Clang clang_tables clang_text ClangReadsAgain

-- ---- records

-- if words have a record by these tables, it has an object
abbrev pub RecordsHaveObjects : CCompilerKind → List (List (Row Kind)) → Type 0
RecordsHaveObjects compiler tables =
    (plusplus : Bool) (directory : List ℕ) (view : Viewed) (words : List (List ℕ)) (p : Parsed) →
    reading compiler plusplus tables directory view words ≡ Ok p → is_some (object_of p) ≡ true

-- if words have a record by these tables, no option of an either row in their line has an empty value
abbrev pub LinesHaveNoEmpty : CCompilerKind → List (List (Row Kind)) → (List ℕ → Viewed → List (List ℕ) → Line Kind Kind) → Type 0
LinesHaveNoEmpty compiler tables line =
    (plusplus : Bool) (directory : List ℕ) (view : Viewed) (words : List (List ℕ)) (p : Parsed) →
    reading compiler plusplus tables directory view words ≡ Ok p → HasNoEmpty (line directory view words)

abbrev pub GccRecordsHaveObjects : Type 0
GccRecordsHaveObjects = RecordsHaveObjects compilers.Gcc (gcc_rows ∷ [])

abbrev pub ClangRecordsHaveObjects : Type 0
ClangRecordsHaveObjects = RecordsHaveObjects compilers.Clang clang_tables

abbrev pub GccLinesHaveNoEmpty : Type 0
GccLinesHaveNoEmpty = LinesHaveNoEmpty compilers.Gcc (gcc_rows ∷ []) gcc_line

abbrev pub ClangLinesHaveNoEmpty : Type 0
ClangLinesHaveNoEmpty = LinesHaveNoEmpty compilers.Clang clang_tables clang_line
