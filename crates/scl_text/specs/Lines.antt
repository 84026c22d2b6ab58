-- A command line, given or inner, cut and judged: its options, of each the given word from which it came and its refusal, and
-- its end.
use Rattle.std.specs.Prelude.{ℕ, Bool, true, false, List, [], ◌∷◌, ◌++◌, drop, length, map, Option, None, Some, Result, Ok, unwrap_or, if◌then◌else◌}
use Rattle.std.specs.Option.{option_and_then, option_map, option_or}
use Rattle.scl_args.specs.Empties.{refusing_empty}
use Rattle.scl_args.specs.Options.{last, unless}
use Rattle.scl_text.specs.Reasons.{argument_parse, empty_value}
use Rattle.scl_text.specs.Records.{Verdict, path_of}
use Rattle.scl_text.specs.Refusals.{verdict_of}
use Rattle.scl_files.specs.Sources.{first_at}
use Rattle.scl_text.specs.declared.line.Dangling.{Dangling}
use Rattle.scl_text.specs.declared.refusal.Refusal.{Refusal}
use Rattle.scl_values.specs.Cuts.{cut, is_dangling}
use Rattle.scl_values.specs.Row.{Row}
use Rattle.scl_values.specs.Seen.{Seen, shown}
use Rattle.scl_values.specs.Spell.{spelled}

-- ---- from which given word something came

-- of each option, the index of its first word
abbrev pub ats_cut : {K : Type 0} → List (Seen K) → List (Option ℕ) → List (Option ℕ)
ats_cut [] ats = []
ats_cut (o ∷ os) ats = first_at ats ∷ ats_cut os (drop (length (spelled o)) ats)

-- the indices of the options that pass the test
abbrev pub ats_passing : {K : Type 0} → (Seen K → Bool) → List (Seen K) → List (Option ℕ) → List (Option ℕ)
ats_passing p [] ats = []
ats_passing p (o ∷ os) ats = (if p o then first_at ats ∷ [] else []) ++ ats_passing p os (drop 1 ats)

-- ---- lines

-- a last flag without its value: its word, the flag and the kind of the row that owns it, and the given word from which it
-- came
pub record Dangled (K : Type 0) : Type 0 where
  pub word : List ℕ
  pub flag : Option (List ℕ)
  pub kind : Option K
  pub at : Option ℕ

pub record JudgedLine (K : Type 0) : Type 0 where
  pub options : List (Seen K)
  pub ats : List (Option ℕ)
  pub refusals : List (Option Verdict)
  pub dangling : Option (Dangled K)

-- the refusal of each option, judged given those before it
abbrev pub refusals_after : {K : Type 0} → (List (Seen K) → Seen K → Option Verdict) → List (Seen K) → List (Seen K) → List (Option Verdict)
refusals_after verdict before [] = []
refusals_after verdict before (o ∷ os) = verdict before o ∷ refusals_after verdict (before ++ o ∷ []) os

-- the end of words whose last word is such a flag
abbrev pub dangled_by : {K : Type 0} → (List ℕ → Option (Row K)) → Bool → List (List ℕ) → List (Option ℕ) → Option (Dangled K)
dangled_by own false words ats = None
dangled_by own true words ats =
    let word = unwrap_or (last words) [] in
    Some (record { word = word; flag = option_map (λ row. row.flag) (own word); kind = option_map (λ row. row.kind) (own word); at = option_and_then (λ at. at) (last ats) })

-- the line of words that came from these given ones; `own` gives a word's owner; with dashes `--` ends the options
unfoldable pub line_by : {K : Type 0} → (List (Seen K) → Seen K → Option Verdict) → (List ℕ → Option (Row K)) → Bool → List (List ℕ) → List (Option ℕ) → JudgedLine K
line_by verdict own dashes words ats =
    let c = cut own dashes words in
    let os = map shown c.options in
    record {
      options = os;
      ats = ats_cut os ats;
      refusals = refusals_after (refusing_empty own empty_value verdict) [] os;
      dangling = dangled_by own (is_dangling c.end) words ats;
    }

-- the line without words
abbrev pub no_line : {K : Type 0} → JudgedLine K
no_line = record { options = []; ats = []; refusals = []; dangling = None }

-- ---- refusals of a line

abbrev pub first_some : {V : Type 0} → List (Option V) → Option V
first_some [] = None
first_some (o ∷ os) = option_or o (first_some os)

-- the first refusal of an option, else that of a dangling end
abbrev pub line_refusal : {K : Type 0} → JudgedLine K → Option Verdict
line_refusal l = option_or (first_some l.refusals) (option_map (λ d. argument_parse) l.dangling)

-- its options, if it is not refused
abbrev pub line_options : {K : Type 0} → JudgedLine K → Result (List (Seen K)) Verdict
line_options l = unless (line_refusal l) (Ok l.options)

-- ---- what the code stores

abbrev pub dangled_of : {K : Type 0} → Dangling K → Dangled K
dangled_of d = record { word = d.word.items; flag = option_map (λ owner. owner.0.now) d.owner; kind = option_map (λ owner. owner.1) d.owner; at = d.at }

abbrev pub verdicts_of : List (Option Refusal) → List (Option Verdict)
verdicts_of refusals = map (option_map verdict_of) refusals
