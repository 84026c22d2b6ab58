-- A shell's text without expansions, and its words, as bytes.
use Rattle.std.specs.Prelude.{◌≡◌, ◌≢◌, ℕ, ◌==◌, ◌||◌, Bool, true, false, List, [], ◌∷◌, ◌++◌, Option, None, Some}
use Rattle.scl_shell.specs.declared.split.ShellError.{ShellError}
use Rattle.scl_shell.specs.declared.split.ShellError.TheVariants as errors

abbrev pub line_feed : ℕ
line_feed = 10

abbrev pub double_quote : ℕ
double_quote = 34

abbrev pub single_quote : ℕ
single_quote = 39

abbrev pub backslash : ℕ
backslash = 92

-- space, tab and LF
abbrev pub is_blank : ℕ → Bool
is_blank c = c == 32 || c == 9 || c == line_feed

-- the bytes before which a backslash in double quotes is dropped: `$`, the backquote, `"` and `\`
abbrev pub is_special : ℕ → Bool
is_special c = c == 36 || c == 96 || c == double_quote || c == backslash

-- the inside of single quotes
pub data HasNone (quote : ℕ) : List ℕ → Type 0 where
  none : HasNone quote []
  more : (c : ℕ) (s : List ℕ) → c ≢ quote → HasNone quote s → HasNone quote (c ∷ s)

-- the inside of double quotes, and the bytes that it means
pub data Inside : List ℕ → List ℕ → Type 0 where
  nothing : Inside [] []
  one : (c : ℕ) (s m : List ℕ) → c ≢ double_quote → c ≢ backslash → Inside s m → Inside (c ∷ s) (c ∷ m)
  special : (c : ℕ) (s m : List ℕ) → is_special c ≡ true → Inside s m → Inside (backslash ∷ c ∷ s) (c ∷ m)
  line_end : (s m : List ℕ) → Inside s m → Inside (backslash ∷ line_feed ∷ s) m
  other : (c : ℕ) (s m : List ℕ) → is_special c ≡ false → c ≢ line_feed → Inside s m → Inside (backslash ∷ c ∷ s) (backslash ∷ c ∷ m)

-- a piece of a text: a blank, or bytes of a word that mean these
pub data Piece : Type 0 where
  gap : Piece
  stands : List ℕ → Piece

-- the bytes of a text are these pieces in order; a backslash before a LF outside quotes is no piece
pub data ArePieces : List ℕ → List Piece → Type 0 where
  end : ArePieces [] []
  blank : (c : ℕ) (t : List ℕ) (ps : List Piece) → is_blank c ≡ true → ArePieces t ps → ArePieces (c ∷ t) (gap ∷ ps)
  plain : (c : ℕ) (t : List ℕ) (ps : List Piece) → is_blank c ≡ false → c ≢ backslash → c ≢ single_quote → c ≢ double_quote → ArePieces t ps
      → ArePieces (c ∷ t) (stands (c ∷ []) ∷ ps)
  escaped : (c : ℕ) (t : List ℕ) (ps : List Piece) → c ≢ line_feed → ArePieces t ps → ArePieces (backslash ∷ c ∷ t) (stands (c ∷ []) ∷ ps)
  continued : (t : List ℕ) (ps : List Piece) → ArePieces t ps → ArePieces (backslash ∷ line_feed ∷ t) ps
  single : (s t : List ℕ) (ps : List Piece) → HasNone single_quote s → ArePieces t ps → ArePieces (single_quote ∷ (s ++ single_quote ∷ t)) (stands s ∷ ps)
  double : (s m t : List ℕ) (ps : List Piece) → Inside s m → ArePieces t ps → ArePieces (double_quote ∷ (s ++ double_quote ∷ t)) (stands m ∷ ps)

-- a word that has begun, with more bytes
abbrev pub with : Option (List ℕ) → List ℕ → Option (List ℕ)
with None m = Some m
with (Some word) m = Some (word ++ m)

-- a word that has begun, if one has
abbrev pub kept : Option (List ℕ) → List (List ℕ)
kept None = []
kept (Some word) = word ∷ []

-- the words of pieces: what is between blanks, joined; the first word may have begun
abbrev pub joined : Option (List ℕ) → List Piece → List (List ℕ)
joined begun [] = kept begun
joined begun (gap ∷ ps) = kept begun ++ joined None ps
joined begun (stands m ∷ ps) = joined (with begun m) ps

-- the words of a text
abbrev pub AreWords : List ℕ → List (List ℕ) → Type 0
AreWords text words = (ps : List Piece) × ArePieces text ps × (words ≡ joined None ps)

-- after complete pieces a quote opens that nothing closes, or the last byte is a backslash
pub data IsBroken : List ℕ → ShellError → Type 0 where
  last_backslash : (t : List ℕ) (ps : List Piece) → ArePieces t ps → IsBroken (t ++ backslash ∷ []) errors.LastBackslash
  open_single : (t s : List ℕ) (ps : List Piece) → ArePieces t ps → HasNone single_quote s → IsBroken (t ++ single_quote ∷ s) errors.OpenQuote
  open_double : (t s m : List ℕ) (ps : List Piece) → ArePieces t ps → Inside s m → IsBroken (t ++ double_quote ∷ s) errors.OpenQuote
  open_escape : (t s m : List ℕ) (ps : List Piece) → ArePieces t ps → Inside s m → IsBroken (t ++ double_quote ∷ (s ++ backslash ∷ [])) errors.OpenQuote
