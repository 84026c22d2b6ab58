-- The outcome of a command line.
use Rattle.std.specs.Prelude.{ℕ, Bool, List, [], ◌∷◌, Result, Ok}
use Rattle.scl_args.specs.Options.{texts, ◌>>=◌}
use Rattle.scl_values.specs.Row.{Row}
use Rattle.scl_values.specs.Seen.{Seen}
use Rattle.scl_files.specs.declared.expand.ExpansionKind.TheVariants as expansions
use Rattle.scl_text.specs.declared.records.CCompilerKind.{CCompilerKind}
use Rattle.scl_text.specs.Records.{Parsed, Verdict}
use Rattle.scl_text.specs.JudgedWords.{judged_words}
use Rattle.scl_files.specs.Views.{Viewed}
use Rattle.scl_gnu_reading.specs.declared.gcc.data.Kind.{Kind}
use Rattle.scl_gnu_reading.specs.declared.gcc.data.Kind.TheVariants as kind
use Rattle.scl_gnu_reading.specs.FixedTests.{found}
use Rattle.scl_gnu_reading.specs.Inners.{inner_verdict, inner_reading}
use Rattle.scl_gnu_reading.specs.Kinds.{of}
use Rattle.scl_gnu_reading.specs.Recordings.{is_clang, record_of}
use Rattle.scl_gnu_reading.specs.Verdicts.{verdict}

-- the tests, and the record of what they find
abbrev pub recorded : CCompilerKind → Bool → List ℕ → Viewed → List (Seen Kind) → List (Seen Kind) → Result Parsed Verdict
recorded compiler plusplus directory view os inner = do
  f ← found plusplus os
  Ok (record_of compiler directory view os inner f)

-- options that are not refused: the inner ones in them are read, and then both are tested and recorded
abbrev pub read : CCompilerKind → Bool → List ℕ → Viewed → List (Seen Kind) → Result Parsed Verdict
read compiler plusplus directory view os = do
  inner ← inner_reading inner_verdict directory view (texts (of (kind.XClang ∷ [])) os)
  recorded compiler plusplus directory view os inner

-- the words are cut by the tables (for Clang `--` ends the options), judged and read
abbrev pub reading : CCompilerKind → Bool → List (List (Row Kind)) → List ℕ → Viewed → List (List ℕ) → Result Parsed Verdict
reading compiler plusplus tables directory view words = do
  os ← judged_words expansions.Gnu (verdict view.is_multiarch) tables (is_clang compiler) directory view words
  read compiler plusplus directory view os
