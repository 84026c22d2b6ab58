-- The options of words, judged: those of a command line, and those of an inner one.
use Rattle.std.specs.Prelude.{ℕ, Bool, List, map, Option, Result}
use Rattle.scl_values.specs.Cuts.{Cut, Cutting, is_dangling, cut}
use Rattle.scl_args.specs.Empties.{refusing_empty}
use Rattle.scl_args.specs.Options.{judged}
use Rattle.scl_values.specs.Row.{Row}
use Rattle.scl_values.specs.Seen.{Seen, shown}
use Rattle.scl_values.specs.Tables.{owner_in}
use Rattle.scl_files.specs.declared.expand.ExpansionKind.{ExpansionKind}
use Rattle.scl_files.specs.Expand.{expand}
use Rattle.scl_files.specs.Views.{Viewed}
use Rattle.scl_text.specs.Reasons.{argument_parse, empty_value}
use Rattle.scl_text.specs.Records.{Verdict}

-- the options that words are cut into, if none has an empty value of an either row, none is refused and the last flag has its
-- value; `own` gives a word's owner
abbrev pub judged_cut : {K : Type 0} → (List (Seen K) → Seen K → Option Verdict) → (List ℕ → Option (Row K)) → Bool → List (List ℕ) → Result (List (Seen K)) Verdict
judged_cut verdict own dashes words =
    let c = cut own dashes words in
    judged (refusing_empty own empty_value verdict) argument_parse (map shown c.options) (is_dangling c.end)

-- what words with response files expanded are cut into by the tables; with dashes `--` ends the options
abbrev pub cut_line : {K : Type 0} → ExpansionKind → List (List (Row K)) → Bool → List ℕ → Viewed → List (List ℕ) → Cutting K
cut_line kind tables dashes directory view words = cut (owner_in tables) dashes (expand kind directory view.files words)

-- the options of such a line
abbrev pub options_of : {K : Type 0} → ExpansionKind → List (List (Row K)) → Bool → List ℕ → Viewed → List (List ℕ) → List (Cut K)
options_of kind tables dashes directory view words = (cut_line kind tables dashes directory view words).options

-- such a line, judged
abbrev pub judged_words : {K : Type 0} → ExpansionKind → (List (Seen K) → Seen K → Option Verdict) → List (List (Row K)) → Bool → List ℕ → Viewed → List (List ℕ) → Result (List (Seen K)) Verdict
judged_words kind verdict tables dashes directory view words =
    judged_cut verdict (owner_in tables) dashes (expand kind directory view.files words)
