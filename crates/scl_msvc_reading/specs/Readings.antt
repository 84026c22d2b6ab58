-- The outcome of a command line.
use Rattle.std.specs.Prelude.{ℕ, Bool, List, [], ◌∷◌, Result, Ok}
use Rattle.scl_args.specs.Options.{texts, ◌>>=◌}
use Rattle.scl_values.specs.Seen.{Seen}
use Rattle.scl_files.specs.declared.expand.ExpansionKind.TheVariants as expansions
use Rattle.scl_text.specs.JudgedWords.{judged_words}
use Rattle.scl_text.specs.Records.{Parsed, Verdict}
use Rattle.scl_files.specs.Views.{Viewed}
use Rattle.scl_gnu_reading.specs.declared.gcc.data.Kind as gnu
use Rattle.scl_gnu_reading.specs.Inners.{inner_reading}
use Rattle.scl_msvc_reading.specs.declared.msvc.data.Kind.{Kind}
use Rattle.scl_msvc_reading.specs.declared.msvc.data.Kind.TheVariants as kind
use Rattle.scl_msvc_reading.specs.FixedTests.{found}
use Rattle.scl_msvc_reading.specs.Inners.{BothInner, inner_verdict}
use Rattle.scl_msvc_reading.specs.Kinds.{of}
use Rattle.scl_msvc_reading.specs.Recordings.{record_of}
use Rattle.scl_msvc_reading.specs.Rows.{msvc_tables}
use Rattle.scl_msvc_reading.specs.Verdicts.{verdict}

-- the options of an inner command line; its words are the values of the options of this kind
abbrev pub inner_options : Kind → List ℕ → Viewed → List (Seen Kind) → Result (List (Seen gnu.Kind)) Verdict
inner_options k directory view os = inner_reading inner_verdict directory view (texts (of (k ∷ [])) os)

-- those of both
abbrev pub both_inner : List ℕ → Viewed → List (Seen Kind) → Result BothInner Verdict
both_inner directory view os = do
  xclang ← inner_options kind.XClang directory view os
  clang ← inner_options kind.Clang directory view os
  Ok (record { xclang = xclang; clang = clang })

-- the tests, and the record of what they find
abbrev pub recorded : Bool → List ℕ → Viewed → List (Seen Kind) → BothInner → Result Parsed Verdict
recorded is_clang directory view os inner = do
  f ← found is_clang os
  Ok (record_of directory view os inner f)

-- options that are not refused: the inner ones in them are read, and then all are tested and recorded
abbrev pub read : Bool → List ℕ → Viewed → List (Seen Kind) → Result Parsed Verdict
read is_clang directory view os = do
  inner ← both_inner directory view os
  recorded is_clang directory view os inner

-- the words are cut by both tables (for clang-cl `--` ends the options), judged and read
abbrev pub reading : Bool → List ℕ → Viewed → List (List ℕ) → Result Parsed Verdict
reading is_clang directory view words = do
  os ← judged_words expansions.Msvc (verdict is_clang) msvc_tables is_clang directory view words
  read is_clang directory view os
