-- A command line with response files expanded, and all that is known of it before it is cut.
use Rattle.std.specs.Prelude.{◌≡◌, ℕ, true, false, List, [], Option, Result, MatchResult}
use Rattle.scl_values.specs.Words.{words_of}
use Rattle.scl_files.specs.Expand.{expand}
use Rattle.scl_files.specs.Openings.{is_expanded_within, texts_once}
use Rattle.scl_files.specs.Sources.{ats_expanded}
use Rattle.scl_files.specs.Views.{File}
use Rattle.scl_files.specs.Wanted.{wanted}
use Rattle.scl_files.specs.Within.{is_within}
use Rattle.scl_files.specs.declared.expand.ExpansionKind.{ExpansionKind}
use Rattle.scl_files.specs.declared.expand.Limits.{Limits}
use Rattle.scl_files.specs.declared.expand.TooManyWords.{TooManyWords}
use Rattle.scl_files.specs.declared.line.Expanded.{Expanded}

-- its words, of each the index of the given word from which it came, the texts of the expanded files, each once, and the
-- paths of the wanted files that are absent
pub record ExpandedWords : Type 0 where
  pub words : List (List ℕ)
  pub ats : List (Option ℕ)
  pub texts : List (List ℕ)
  pub lacked : List (List ℕ)

-- those of the expansion of words that came from given ones
abbrev pub expanded_by : ExpansionKind → List ℕ → List File → List (List ℕ) → List (Option ℕ) → ExpandedWords
expanded_by kind directory files words ats = record {
  words = expand kind directory files words;
  ats = ats_expanded kind directory files words ats;
  texts = texts_once kind directory files words;
  lacked = wanted kind directory files words;
}

-- those of words without an expansion
abbrev pub standing : List (List ℕ) → List (Option ℕ) → ExpandedWords
standing words ats = record { words = words; ats = ats; texts = []; lacked = [] }

abbrev pub expanded_of : Expanded → ExpandedWords
expanded_of e = record { words = words_of e.words.items; ats = e.ats.items; texts = words_of e.texts.items; lacked = words_of e.lacked.items }

-- the result is exactly this if the words and the openings are within the limits; else it is `TooManyWords`
abbrev pub IsExpanded : Limits → ExpansionKind → List ℕ → List File → List (List ℕ) → List (Option ℕ) → Result Expanded TooManyWords → Type 0
IsExpanded most kind directory files words ats said =
    MatchResult said (λ e. (is_expanded_within most kind directory files words ≡ true) × (expanded_of e ≡ expanded_by kind directory files words ats))
    (λ _. is_expanded_within most kind directory files words ≡ false)

-- the same for words that are not expanded
abbrev pub Stands : Limits → List (List ℕ) → List (Option ℕ) → Result Expanded TooManyWords → Type 0
Stands most words ats said =
    MatchResult said (λ e. (is_within most words ≡ true) × (expanded_of e ≡ standing words ats)) (λ _. is_within most words ≡ false)
