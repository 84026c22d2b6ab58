-- A command line, given or inner, with response files expanded, cut and judged.
use Rattle.std.specs.Prelude.{ℕ, Bool, List, [], Option}
use Rattle.scl_files.specs.Expanded.{ExpandedWords}
use Rattle.scl_text.specs.Lines.{JudgedLine, line_by, no_line}
use Rattle.scl_text.specs.Records.{Verdict}
use Rattle.scl_values.specs.Row.{Row}
use Rattle.scl_values.specs.Seen.{Seen}

-- its words, the line that they are, the texts of the files that were expanded, and the paths of the wanted files that are
-- absent
pub record LineRead (K : Type 0) : Type 0 where
  pub words : List (List ℕ)
  pub line : JudgedLine K
  pub texts : List (List ℕ)
  pub lacked : List (List ℕ)

-- that of expanded words
abbrev pub line_read : {K : Type 0} → (List (Seen K) → Seen K → Option Verdict) → (List ℕ → Option (Row K)) → Bool → ExpandedWords → LineRead K
line_read verdict own dashes e = record {
  words = e.words;
  line = line_by verdict own dashes e.words e.ats;
  texts = e.texts;
  lacked = e.lacked;
}

-- that without words
abbrev pub nothing_read : {K : Type 0} → LineRead K
nothing_read = record { words = []; line = no_line; texts = []; lacked = [] }
