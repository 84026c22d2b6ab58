-- Words that make the preprocessor write a file, and the words without them.
use Rattle.std.specs.Prelude.{ℕ, ◌≡◌, ◌+◌, ◌<◌, zero, suc, Bool, ◌&&◌, ◌||◌, nat_eq, if◌then◌else◌, List, [], ◌∷◌, drop, codes}
use Rattle.std.specs.List.{list_any, slice_split, starts_with}
use Rattle.std.specs.Str.{bytes_eq, is_utf8}

-- the flag in front of a word for the preprocessor
unfoldable pub is_preprocessor_flag : List ℕ → Bool
is_preprocessor_flag word = bytes_eq word (codes "-Xpreprocessor")

-- the flag whose value is a file of diagnostics
unfoldable pub is_diagnostics : List ℕ → Bool
is_diagnostics word = bytes_eq word (codes "--serialize-diagnostics")

-- the text requests rules of the preprocessor
unfoldable pub asks_for_rules : List ℕ → Bool
asks_for_rules text = starts_with nat_eq text (codes "-M")

-- the flag has its value in the next word
unfoldable pub has_value : List ℕ → Bool
has_value flag = bytes_eq flag (codes "-MF") || bytes_eq flag (codes "-MT") || bytes_eq flag (codes "-MQ")

-- one of the texts between commas requests rules
abbrev pub some_asks : List ℕ → Bool
some_asks texts = list_any asks_for_rules (slice_split (λ b. nat_eq b 44) texts)

-- one of the texts after `-Wp,` requests rules
unfoldable pub hands_on_rules : List ℕ → Bool
hands_on_rules word = is_utf8 word && starts_with nat_eq word (codes "-Wp,") && some_asks (drop 4 word)

-- the number of words of a flag's value: of `-Xpreprocessor` before it, and of the value, if they are there
abbrev pub value_count : List ℕ → List (List ℕ) → ℕ
value_count flag [] = 0
value_count flag (word ∷ words) = if has_value flag && is_preprocessor_flag word then 2 else 0

-- the number of words of `-Xpreprocessor`, the flag after it and the flag's value; 0 if the flag requests no rules
abbrev pub flag_count : List (List ℕ) → ℕ
flag_count [] = 0
flag_count (flag ∷ words) = if is_utf8 flag && asks_for_rules flag then 2 + value_count flag words else 0

-- the number of words at the front that make the preprocessor write one file; 0 if the first does not, and more than there
-- are if a value is missing
unfoldable pub file_count : List (List ℕ) → ℕ
file_count [] = 0
file_count (word ∷ words) =
    if is_diagnostics word then 2 else (if is_preprocessor_flag word then flag_count words else (if hands_on_rules word then 1 else 0))

-- what is left of words without those that make the preprocessor write a file, from the left
pub data LeavesOut : List (List ℕ) → List (List ℕ) → Type 0 where
  ends : LeavesOut [] []
  keeps : (word : List ℕ) (words kept : List (List ℕ)) → file_count (word ∷ words) ≡ 0 → LeavesOut words kept → LeavesOut (word ∷ words) (word ∷ kept)
  leaves : (word : List ℕ) (words kept : List (List ℕ)) → 0 < file_count (word ∷ words) → LeavesOut (drop (file_count (word ∷ words)) (word ∷ words)) kept → LeavesOut (word ∷ words) kept

-- what is left after the first n words, which are left out
abbrev pub left_behind : ℕ → List (List ℕ) → List (List ℕ)
left_behind n [] = []
left_behind (suc n) (word ∷ words) = left_behind n words
left_behind zero (word ∷ words) = elim (file_count (word ∷ words)) [ zero ↦ word ∷ left_behind 0 words | suc n ↦ left_behind n words ]

-- the words without those that make the preprocessor write a file
unfoldable pub without_output_files : List (List ℕ) → List (List ℕ)
without_output_files words = left_behind 0 words

-- ---- laws

-- the first words are among the second, in order
pub data StandIn : List (List ℕ) → List (List ℕ) → Type 0 where
  none : StandIn [] []
  next : (word : List ℕ) (some all : List (List ℕ)) → StandIn some all → StandIn (word ∷ some) (word ∷ all)
  later : (word : List ℕ) (some all : List (List ℕ)) → StandIn some all → StandIn some (word ∷ all)

-- exactly what the rule leaves is left, in order
pub record KeepsInOrder (words : List (List ℕ)) : Type 0 where
  pub are_left : LeavesOut words (without_output_files words)
  pub alone : (kept : List (List ℕ)) → LeavesOut words kept → kept ≡ without_output_files words
  pub stand_in_order : StandIn (without_output_files words) words

abbrev pub OutputFilesAreLeftOut : Type 0
OutputFilesAreLeftOut = (words : List (List ℕ)) → KeepsInOrder words
