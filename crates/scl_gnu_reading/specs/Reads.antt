-- A command line of Gcc or Clang, read: its lines and its outcome.
use Rattle.std.specs.Prelude.{◌≡◌, ℕ, Bool, true, false, List, [], ◌∷◌, Option, Result, MatchResult}
use Rattle.scl_args.specs.Options.{texts, ◌>>=◌}
use Rattle.scl_files.specs.Expanded.{ExpandedWords, expanded_by}
use Rattle.scl_files.specs.Openings.{is_expanded_within}
use Rattle.scl_files.specs.Views.{Viewed}
use Rattle.scl_files.specs.declared.expand.ExpansionKind.TheVariants as expansions
use Rattle.scl_files.specs.declared.expand.TooManyWords.{TooManyWords}
use Rattle.scl_files.specs.declared.expand.Limits.{Limits}
use Rattle.scl_gnu_reading.specs.ClangRows.{clang_tables}
use Rattle.scl_gnu_reading.specs.Inners.{inner_verdict}
use Rattle.scl_gnu_reading.specs.Kinds.{of}
use Rattle.scl_gnu_reading.specs.Readings.{reading, recorded}
use Rattle.scl_gnu_reading.specs.Recordings.{is_clang}
use Rattle.scl_gnu_reading.specs.Verdicts.{verdict}
use Rattle.scl_gnu_reading.specs.declared.gcc.data.Kind.{Kind}
use Rattle.scl_gnu_reading.specs.declared.gcc.data.Kind.TheVariants as kind
use Rattle.scl_text.specs.Lines.{JudgedLine, ats_passing, line_options}
use Rattle.scl_text.specs.ReadLines.{LineRead, line_read}
use Rattle.scl_text.specs.Records.{Parsed, Verdict}
use Rattle.scl_text.specs.declared.records.CCompilerKind.{CCompilerKind}
use Rattle.scl_values.specs.Row.{Row}
use Rattle.scl_values.specs.Seen.{Seen}
use Rattle.scl_values.specs.Tables.{owner_in}

-- a command line that was read: the compiler, the given line, the words for the inner line, that line, and the outcome
pub record GnuRead : Type 0 where
  pub compiler : CCompilerKind
  pub plusplus : Bool
  pub outer : LineRead Kind
  pub handed : List (List ℕ)
  pub inner : LineRead Kind
  pub outcome : Result Parsed Verdict

-- the given line, with response files expanded
abbrev pub outer_read : CCompilerKind → List (List (Row Kind)) → Viewed → ExpandedWords → LineRead Kind
outer_read compiler tables view e = line_read (verdict view.is_multiarch) (owner_in tables) (is_clang compiler) e

-- the words for the inner line, and of each the index of the given word from which it came
abbrev pub handed_words : JudgedLine Kind → List (List ℕ)
handed_words outer = texts (of (kind.XClang ∷ [])) outer.options

abbrev pub handed_ats : JudgedLine Kind → List (Option ℕ)
handed_ats outer = ats_passing (of (kind.XClang ∷ [])) outer.options outer.ats

-- the line of words for the inner line
abbrev pub inner_read : (List (Seen Kind) → Seen Kind → Option Verdict) → List ℕ → Viewed → List (List ℕ) → List (Option ℕ) → LineRead Kind
inner_read verdict directory view words ats = line_read verdict (owner_in clang_tables) false (expanded_by expansions.Gnu directory view.files words ats)

-- the result is the line if its words and openings are within the limits; else it is `TooManyWords`
abbrev pub IsInnerRead : (List (Seen Kind) → Seen Kind → Option Verdict) → Limits → List ℕ → Viewed → List (List ℕ) → List (Option ℕ) → Result (LineRead Kind) TooManyWords → Type 0
IsInnerRead verdict most directory view words ats said =
    let within = is_expanded_within most expansions.Gnu directory view.files words in
    MatchResult said (λ line. (within ≡ true) × (line ≡ inner_read verdict directory view words ats)) (λ _. within ≡ false)

-- the outcome of both lines: the first refusal, else the record of what the tests find
abbrev pub outcome_by : CCompilerKind → Bool → List ℕ → Viewed → JudgedLine Kind → JudgedLine Kind → Result Parsed Verdict
outcome_by compiler plusplus directory view outer inner = do
  os ← line_options outer
  is ← line_options inner
  recorded compiler plusplus directory view os is

-- the reading of expanded words
abbrev pub read_by : CCompilerKind → Bool → List (List (Row Kind)) → List ℕ → Viewed → ExpandedWords → GnuRead
read_by compiler plusplus tables directory view e =
    let outer = outer_read compiler tables view e in
    let handed = handed_words outer.line in
    let inner = inner_read inner_verdict directory view handed (handed_ats outer.line) in
    record {
      compiler = compiler;
      plusplus = plusplus;
      outer = outer;
      handed = handed;
      inner = inner;
      outcome = outcome_by compiler plusplus directory view outer.line inner.line;
    }

-- whether the words and openings of the inner line are within the limits
abbrev pub is_inner_within : Limits → CCompilerKind → List (List (Row Kind)) → List ℕ → Viewed → ExpandedWords → Bool
is_inner_within most compiler tables directory view e =
    is_expanded_within most expansions.Gnu directory view.files (handed_words (outer_read compiler tables view e).line)

-- ---- a law

-- the outcome of a reading is that of its words
abbrev pub ReadingsSay : Type 0
ReadingsSay =
    (compiler : CCompilerKind) (plusplus : Bool) (tables : List (List (Row Kind))) (directory : List ℕ) (view : Viewed) (words : List (List ℕ)) (ats : List (Option ℕ))
    → (read_by compiler plusplus tables directory view (expanded_by expansions.Gnu directory view.files words ats)).outcome ≡ reading compiler plusplus tables directory view words
