-- A command line of Diab or TaskingVX, read: its line and its outcome.
use Rattle.std.specs.Prelude.{◌≡◌, ℕ, false, List, Option, Result}
use Rattle.scl_args.specs.Options.{◌>>=◌}
use Rattle.scl_files.specs.Expanded.{ExpandedWords}
use Rattle.scl_text.specs.Lines.{JudgedLine, line_options}
use Rattle.scl_text.specs.ReadLines.{LineRead, line_read}
use Rattle.scl_text.specs.Records.{Parsed, Verdict}
use Rattle.scl_small.specs.Readings.{reads}
use Rattle.scl_values.specs.Row.{Row}
use Rattle.scl_values.specs.Seen.{Seen}

-- a command line that was read: the line, and the outcome
pub record SmallRead (K : Type 0) : Type 0 where
  pub outer : LineRead K
  pub outcome : Result Parsed Verdict

-- the outcome of a line: its first refusal, else the record of what the tests find
abbrev pub outcome_by : {K : Type 0} → (List (Seen K) → Result Parsed Verdict) → JudgedLine K → Result Parsed Verdict
outcome_by tested line = line_options line >>= tested

-- that of expanded words, whose options are judged each by itself, and then tested and recorded
abbrev pub read_by : {K : Type 0} → (Seen K → Option Verdict) → (List (Seen K) → Result Parsed Verdict) → (List ℕ → Option (Row K)) → ExpandedWords → SmallRead K
read_by verdict tested own e =
    let outer = line_read (λ before. verdict) own false e in
    record { outer = outer; outcome = outcome_by tested outer.line }

-- ---- a law

-- the outcome of a reading is that of its words, by the same verdicts and tests
abbrev pub ReadingsSay : Type 0 → Type 0
ReadingsSay K =
    (verdict : Seen K → Option Verdict) (tested : List (Seen K) → Result Parsed Verdict) (own : List ℕ → Option (Row K)) (e : ExpandedWords) → (read_by verdict tested own e).outcome ≡ reads verdict tested own e.words
