-- Commands of Msvc that are read again: their parts, and what a command line says.
use Rattle.std.specs.Prelude.{◌≡◌, ℕ, Bool, true, false, List, [], ◌∷◌, ◌++◌, map, codes}
use Rattle.scl_values.specs.Cuts.{Cut, cut}
use Rattle.scl_args.specs.Options.{dash_words, texts}
use Rattle.scl_values.specs.Seen.{Seen, Plain, shown}
use Rattle.scl_values.specs.Seen as plain
use Rattle.scl_values.specs.Tables.{owner_in}
use Rattle.scl_args.specs.Commands.{CommandList, Parts}
use Rattle.scl_files.specs.declared.expand.ExpansionKind.TheVariants as expansions
use Rattle.scl_text.specs.declared.language.Language.{Language}
use Rattle.scl_text.specs.declared.language.Language.TheVariants as languages
use Rattle.scl_text.specs.JudgedWords.{options_of}
use Rattle.scl_text.specs.Records.{Parsed}
use Rattle.scl_files.specs.Views.{Viewed}
use Rattle.scl_gnu_reading.specs.declared.gcc.data.Kind as gnu
use Rattle.scl_gnu_reading.specs.ClangRows.{clang_tables}
use Rattle.scl_msvc_reading.specs.declared.msvc.data.Kind.{Kind}
use Rattle.scl_msvc_reading.specs.declared.msvc.data.Kind.TheVariants as kind
use Rattle.scl_msvc_reading.specs.declared.msvc.place.Place.{Place}
use Rattle.scl_msvc_reading.specs.declared.msvc.place.Place.TheVariants as places
use Rattle.scl_msvc_reading.specs.Inners.{goes_inside_to}
use Rattle.scl_msvc_reading.specs.Kinds.{of, is_input}
use Rattle.scl_msvc_reading.specs.Places.{goes_to}
use Rattle.scl_msvc_reading.specs.Rows.{msvc_tables}

-- ---- what a command is made of

-- the input, as the value of the flag of its language if a flag gave that (only these two languages have a flag), else as a
-- raw word
abbrev pub input_option : (is_said : Bool) → Language → List ℕ → Plain Kind
input_option true languages.C input = plain.value (codes "-Tc") kind.CInput input
input_option true languages.Cxx input = plain.value (codes "-Tp") kind.CxxInput input
input_option true languages.Assembler input = plain.raw input
input_option true languages.AssemblerToPreprocess input = plain.raw input
input_option true languages.CHeader input = plain.raw input
input_option true languages.GenericHeader input = plain.raw input
input_option true languages.CxxHeader input = plain.raw input
input_option true languages.CxxModule input = plain.raw input
input_option true languages.ObjectiveC input = plain.raw input
input_option true languages.ObjectiveCHeader input = plain.raw input
input_option true languages.ObjectiveCxx input = plain.raw input
input_option true languages.ObjectiveCxxHeader input = plain.raw input
input_option true languages.Cuda input = plain.raw input
input_option true languages.Rust input = plain.raw input
input_option true languages.Hip input = plain.raw input
input_option false language input = plain.raw input

-- the mark that ends the options, if the input is after one
abbrev pub mark_option : Bool → List (Plain Kind)
mark_option marked = map plain.raw (dash_words marked)

-- the list of the outer and inner options of this place; nothing is added
abbrev pub list_of : Place → CommandList Kind gnu.Kind
list_of there = record { carries = goes_to there; carries_inner = goes_inside_to there; added = [] }

-- the parts of a record's command with this object file
abbrev pub parts : Parsed → List ℕ → Parts Kind gnu.Kind
parts p object = record {
  front = plain.flag p.compilation_flag kind.DoCompilation ∷ plain.value (codes "-Fo") kind.Output object ∷ [];
  lists = list_of places.Preprocessor ∷ list_of places.Dependency ∷ list_of places.Unhashed ∷ list_of places.Common ∷ [];
  back = mark_option p.double_dash_input ++ input_option p.msvc_explicit_language p.language p.input ∷ [];
}

-- the options of words with response files expanded
abbrev pub options_cut : Bool → List (List ℕ) → List (Seen Kind)
options_cut is_clang words = map shown (cut (owner_in msvc_tables) is_clang words).options

-- the words, cut again, have one input: the record's, raw or as the value of the flag of its language
abbrev pub HasOneInput : Bool → Parsed → List (List ℕ) → Type 0
HasOneInput is_clang p command = texts is_input (options_cut is_clang command) ≡ p.input ∷ []

-- ---- what a command line says

-- what words with response files expanded are cut into
abbrev pub outer_options_of : Bool → List ℕ → Viewed → List (List ℕ) → List (Cut Kind)
outer_options_of is_clang directory view words = options_of expansions.Msvc msvc_tables is_clang directory view words

-- the inner options in the values of the options of this kind
abbrev pub inner_options_of : Kind → List ℕ → Viewed → List (Seen Kind) → List (Cut gnu.Kind)
inner_options_of k directory view os = options_of expansions.Gnu clang_tables false directory view (texts (of (k ∷ [])) os)
