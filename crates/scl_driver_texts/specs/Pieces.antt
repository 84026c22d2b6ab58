-- What the bytes of a response file are to a compiler's driver: pieces of words, and the gaps between words.
use Rattle.std.specs.List.{before_first}
use Rattle.std.specs.Prelude.{ℕ, ◌==◌, Bool, List, [], ◌∷◌, ◌++◌, Option, None, Some}

abbrev pub nul : ℕ
nul = 0

abbrev pub vertical_tab : ℕ
vertical_tab = 11

abbrev pub is_nul : ℕ → Bool
is_nul c = c == nul

-- a byte that may have a meaning, or bytes that a backslash made plain
pub data Item : Type 0 where
  bare : ℕ → Item
  taken : List ℕ → Item

-- a gap between words, bytes of a word, or the end of a text inside quotes, which drops the word
pub data Piece : Type 0 where
  gap : Piece
  stands : List ℕ → Piece
  lost : Piece

-- the bytes of a word, which may have begun, and more of it
abbrev pub begun_with : Option (List ℕ) → List ℕ → List ℕ
begun_with None bytes = bytes
begun_with (Some before) bytes = before ++ bytes

-- a word before others, if it has begun
abbrev pub kept : Option (List ℕ) → List (List ℕ) → List (List ℕ)
kept None words = words
kept (Some word) words = word ∷ words

-- what is between gaps, joined; a word may have begun
abbrev pub joined : Option (List ℕ) → List Piece → List (List ℕ)
joined begun [] = kept begun []
joined begun (gap ∷ ps) = kept begun (joined None ps)
joined begun (stands bytes ∷ ps) = joined (Some (begun_with begun bytes)) ps
joined begun (lost ∷ ps) = joined None ps

-- the bytes of a string as C reads it
abbrev pub before_nul : List ℕ → List ℕ
before_nul bytes = before_first is_nul bytes
