-- The outcome of a reading is that of its words.
use Rattle.std.proofs.Common.{◌≡◌, ℕ, false, List, Option, ap}
use Rattle.std.specs.Prelude.{Result}
use Rattle.scl_args.specs.Options.{◌>>=◌}
use Rattle.scl_files.specs.Expanded.{ExpandedWords}
use Rattle.scl_text.proofs.LineLaws.{line-options}
use Rattle.scl_text.specs.Records.{Parsed, Verdict}
use Rattle.scl_values.specs.Row.{Row}
use Rattle.scl_values.specs.Seen.{Seen}
use Rattle.scl_small.specs.Readings.{reads}
use Rattle.scl_small.specs.Reads.{read_by}

pub outcome_read : {K : Type 0} (verdict : Seen K → Option Verdict) (tested : List (Seen K) → Result Parsed Verdict) (own : List ℕ → Option (Row K)) (e : ExpandedWords)
    → (read_by verdict tested own e).outcome ≡ reads verdict tested own e.words
outcome_read verdict tested own e = ap (λ r. r >>= tested) (line-options (λ before. verdict) own false e.words e.ats)
