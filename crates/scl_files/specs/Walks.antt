-- What the code keeps of an expansion on its way through the given words.
use Rattle.std.specs.Prelude.{◌≡◌, ℕ, ◌≤◌, Bool, false, List, [], ◌∷◌, ◌++◌, length, replicate, Option, Result, Ok, Err, ◌⊎◌}
use Rattle.scl_values.specs.Words.{words_of}
use Rattle.scl_files.specs.Expand.{expand}
use Rattle.scl_files.specs.Openings.{are_opened_within, openings, texts_at}
use Rattle.scl_files.specs.Sources.{ats_expanded}
use Rattle.scl_files.specs.Views.{File}
use Rattle.scl_files.specs.Within.{bytes_in, is_within}
use Rattle.scl_files.specs.declared.expand.ExpansionKind.{ExpansionKind}
use Rattle.scl_files.specs.declared.expand.Limits.{Limits}
use Rattle.scl_files.specs.declared.expand.TooManyWords.{TooManyWords}
use Rattle.scl_files.specs.declared.line.Walked.{Walked}

-- the words are within the limits, and their bytes are counted
abbrev pub HasFewWords : Limits → Walked → Type 0
HasFewWords most w = (length w.words.items ≤ most.words) × (w.word_bytes ≤ most.bytes) × (w.word_bytes ≡ bytes_in (words_of w.words.items))

-- the openings are within the limits, and the bytes of their texts are counted
abbrev pub HasFewOpenings : Limits → List File → Walked → Type 0
HasFewOpenings most files w =
    (length w.openings.items ≤ most.words) × (w.text_bytes ≤ most.bytes) × (w.text_bytes ≡ bytes_in (texts_at files (words_of w.openings.items)))

abbrev pub IsWithin : Limits → List File → Walked → Type 0
IsWithin most files w = HasFewWords most w × HasFewOpenings most files w

-- the words exceed the limits, or the openings do
abbrev pub AreTooMany : Limits → List File → List (List ℕ) → List (List ℕ) → Type 0
AreTooMany most files words paths = (is_within most words ≡ false) ⊎ (are_opened_within most files paths ≡ false)

-- the words, openings and indices are these and within the limits; or these words or openings exceed them
abbrev pub Holds : Limits → List File → List (List ℕ) → List (List ℕ) → List (Option ℕ) → Result (Unit {0}) TooManyWords → Walked → Type 0
Holds most files words paths ats (Ok _) w = (words_of w.words.items ≡ words) × (words_of w.openings.items ≡ paths) × (w.ats.items ≡ ats) × IsWithin most files w
Holds most files words paths ats (Err _) w = AreTooMany most files words paths

-- the expansion of a word, or of words, was appended
abbrev pub WalksOn : Limits → ExpansionKind → List ℕ → List File → List (List ℕ) → List (Option ℕ) → Walked → Result (Unit {0}) TooManyWords → Walked → Type 0
WalksOn most kind directory files words ats old said new =
    Holds most files (words_of old.words.items ++ expand kind directory files words) (words_of old.openings.items ++ openings kind directory files words) ats said new

-- all is the same but the words and their bytes
abbrev pub HasRestOf : Walked → Walked → Type 0
HasRestOf old new = (new.openings ≡ old.openings) × (new.ats ≡ old.ats) × (new.text_bytes ≡ old.text_bytes)

-- all is the same but the openings and the bytes of their texts
abbrev pub HasWordsOf : Walked → Walked → Type 0
HasWordsOf old new = (new.words ≡ old.words) × (new.ats ≡ old.ats) × (new.word_bytes ≡ old.word_bytes)
