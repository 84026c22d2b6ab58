-- A command line of cl or clang-cl, read: its lines and its outcome.
use Rattle.std.specs.Prelude.{◌≡◌, ℕ, ◌&&◌, Bool, List, [], ◌∷◌, Option, Result}
use Rattle.scl_args.specs.Options.{texts, ◌>>=◌}
use Rattle.scl_files.specs.Expanded.{ExpandedWords, expanded_by}
use Rattle.scl_files.specs.Openings.{is_expanded_within}
use Rattle.scl_files.specs.Views.{Viewed}
use Rattle.scl_files.specs.declared.expand.ExpansionKind.TheVariants as expansions
use Rattle.scl_files.specs.declared.expand.Limits.{Limits}
use Rattle.scl_gnu_reading.specs.Reads.{inner_read}
use Rattle.scl_gnu_reading.specs.declared.gcc.data.Kind as gnu
use Rattle.scl_msvc_reading.specs.Inners.{inner_verdict}
use Rattle.scl_msvc_reading.specs.Kinds.{of}
use Rattle.scl_msvc_reading.specs.Readings.{reading, recorded}
use Rattle.scl_msvc_reading.specs.Rows.{msvc_tables}
use Rattle.scl_msvc_reading.specs.Verdicts.{verdict}
use Rattle.scl_msvc_reading.specs.declared.msvc.data.Kind.{Kind}
use Rattle.scl_msvc_reading.specs.declared.msvc.data.Kind.TheVariants as kind
use Rattle.scl_text.specs.Lines.{JudgedLine, ats_passing, line_options}
use Rattle.scl_text.specs.ReadLines.{LineRead, line_read, nothing_read}
use Rattle.scl_text.specs.Records.{Parsed, Verdict}
use Rattle.scl_values.specs.Tables.{owner_in}

-- A command line that was read: the compiler, the words from the environment, and the given line with these; the lines after
-- `-Xclang` and after `-clang:`; the words for both and their line; and the outcome.
pub record MsvcRead : Type 0 where
  pub is_clang : Bool
  pub environment : List (List ℕ)
  pub outer : LineRead Kind
  pub xclang : LineRead gnu.Kind
  pub clang : LineRead gnu.Kind
  pub handed : List (List ℕ)
  pub inner : LineRead gnu.Kind
  pub outcome : Result Parsed Verdict

-- the given line, with response files expanded
abbrev pub outer_read : Bool → ExpandedWords → LineRead Kind
outer_read is_clang e = line_read (verdict is_clang) (owner_in msvc_tables) is_clang e

abbrev pub only_xclang : List Kind
only_xclang = kind.XClang ∷ []

abbrev pub only_clang : List Kind
only_clang = kind.Clang ∷ []

abbrev pub either : List Kind
either = kind.XClang ∷ kind.Clang ∷ []

-- the values of the options of these kinds, which are words for inner lines
abbrev pub handed_words : List Kind → JudgedLine Kind → List (List ℕ)
handed_words kinds outer = texts (of kinds) outer.options

abbrev pub handed_ats : List Kind → JudgedLine Kind → List (Option ℕ)
handed_ats kinds outer = ats_passing (of kinds) outer.options outer.ats

-- the line of those words
abbrev pub line_behind : List Kind → List ℕ → Viewed → JudgedLine Kind → LineRead gnu.Kind
line_behind kinds directory view outer = inner_read inner_verdict directory view (handed_words kinds outer) (handed_ats kinds outer)

abbrev pub is_behind_within : Limits → List Kind → List ℕ → Viewed → JudgedLine Kind → Bool
is_behind_within most kinds directory view outer = is_expanded_within most expansions.Gnu directory view.files (handed_words kinds outer)

-- the outcome of the lines: the first refusal, else the record of what the tests find
abbrev pub outcome_by : Bool → List ℕ → Viewed → JudgedLine Kind → JudgedLine gnu.Kind → JudgedLine gnu.Kind → Result Parsed Verdict
outcome_by is_clang directory view outer xclang clang = do
  os ← line_options outer
  xs ← line_options xclang
  cs ← line_options clang
  recorded is_clang directory view os (record { xclang = xs; clang = cs })

-- the reading of expanded words, some of which the environment gave
abbrev pub read_by : Bool → List ℕ → Viewed → List (List ℕ) → ExpandedWords → MsvcRead
read_by is_clang directory view environment e =
    let outer = outer_read is_clang e in
    let xclang = line_behind only_xclang directory view outer.line in
    let clang = line_behind only_clang directory view outer.line in
    record {
      is_clang = is_clang;
      environment = environment;
      outer = outer;
      xclang = xclang;
      clang = clang;
      handed = handed_words either outer.line;
      inner = line_behind either directory view outer.line;
      outcome = outcome_by is_clang directory view outer.line xclang.line clang.line;
    }

-- whether the words and openings of each inner line of a line are within the limits
abbrev pub are_behind_within : Limits → List ℕ → Viewed → JudgedLine Kind → Bool
are_behind_within most directory view outer =
    is_behind_within most only_xclang directory view outer && (is_behind_within most only_clang directory view outer && is_behind_within most either directory view outer)

-- the same for the line of expanded words
abbrev pub are_inner_within : Limits → Bool → List ℕ → Viewed → ExpandedWords → Bool
are_inner_within most is_clang directory view e = are_behind_within most directory view (outer_read is_clang e).line

-- a reading of a command line that is refused before it is read
abbrev pub refused_by : Bool → Result Parsed Verdict → MsvcRead
refused_by is_clang said = record {
  is_clang = is_clang;
  environment = [];
  outer = nothing_read;
  xclang = nothing_read;
  clang = nothing_read;
  handed = [];
  inner = nothing_read;
  outcome = said;
}

-- ---- a law

-- the outcome of a reading is that of its words
abbrev pub ReadingsSay : Type 0
ReadingsSay =
    (is_clang : Bool) (directory : List ℕ) (view : Viewed) (environment words : List (List ℕ)) (ats : List (Option ℕ))
    → (read_by is_clang directory view environment (expanded_by expansions.Msvc directory view.files words ats)).outcome ≡ reading is_clang directory view words
