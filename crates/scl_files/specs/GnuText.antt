-- The GNU text of a response file, from its characters.
use Rattle.std.specs.Prelude.{◌≡◌, ◌≢◌, ℕ, ◌==◌, ◌||◌, Bool, true, false, cond, List, [], ◌∷◌, ◌++◌, map, encode_utf8_all}
use Rattle.std.specs.List.{list_all, join_with_byte}
use Rattle.scl_files.specs.Characters.{space, tab, line_feed, form_feed, carriage_return, backslash, single_quote, double_quote}

-- space, tab, LF, FF and CR
abbrev pub is_gnu_separator : ℕ → Bool
is_gnu_separator c = c == space || c == tab || c == line_feed || c == form_feed || c == carriage_return

-- a piece of a text: a separator, or characters that mean these
pub data Piece : Type 0 where
  gap : Piece
  stands : List ℕ → Piece

-- ---- the rule: what the pieces of a text are

-- the inside of double quotes, and the characters that it means
pub data Inside : List ℕ → List ℕ → Type 0 where
  nothing : Inside [] []
  one : (c : ℕ) (s m : List ℕ) → c ≢ double_quote → c ≢ backslash → Inside s m → Inside (c ∷ s) (c ∷ m)
  pair : (c : ℕ) (s m : List ℕ) → Inside s m → Inside (backslash ∷ c ∷ s) (c ∷ m)

-- the inside of single quotes
pub data HasNone (quote : ℕ) : List ℕ → Type 0 where
  none : HasNone quote []
  more : (c : ℕ) (s : List ℕ) → c ≢ quote → HasNone quote s → HasNone quote (c ∷ s)

-- the characters of a text are these pieces in order
pub data ArePieces : List ℕ → List Piece → Type 0 where
  end : ArePieces [] []
  separator : (c : ℕ) (t : List ℕ) (ps : List Piece) → is_gnu_separator c ≡ true → ArePieces t ps → ArePieces (c ∷ t) (gap ∷ ps)
  plain : (c : ℕ) (t : List ℕ) (ps : List Piece) → is_gnu_separator c ≡ false → c ≢ backslash → c ≢ single_quote → c ≢ double_quote → ArePieces t ps
      → ArePieces (c ∷ t) (stands (c ∷ []) ∷ ps)
  escaped : (c : ℕ) (t : List ℕ) (ps : List Piece) → ArePieces t ps → ArePieces (backslash ∷ c ∷ t) (stands (c ∷ []) ∷ ps)
  lone : ArePieces (backslash ∷ []) (stands [] ∷ [])
  single : (s t : List ℕ) (ps : List Piece) → HasNone single_quote s → ArePieces t ps → ArePieces (single_quote ∷ (s ++ single_quote ∷ t)) (stands s ∷ ps)
  open_single : (s : List ℕ) → HasNone single_quote s → ArePieces (single_quote ∷ s) (stands s ∷ [])
  double : (s m t : List ℕ) (ps : List Piece) → Inside s m → ArePieces t ps → ArePieces (double_quote ∷ (s ++ double_quote ∷ t)) (stands m ∷ ps)
  open_double : (s m : List ℕ) → Inside s m → ArePieces (double_quote ∷ s) (stands m ∷ [])
  lone_inside : (s m : List ℕ) → Inside s m → ArePieces (double_quote ∷ (s ++ backslash ∷ [])) (stands m ∷ [])

-- ---- the pieces, computed

-- the context of a character: between pieces; after a backslash; in single or double quotes, with what their inside means so
-- far; or after a backslash in double quotes
pub data At : Type 0 where
  outside : At
  behind_backslash : At
  in_single : List ℕ → At
  in_double : List ℕ → At
  in_double_behind_backslash : List ℕ → At

abbrev pub pieces_from : At → List ℕ → List Piece
pieces_from outside [] = []
pieces_from outside (c ∷ t) =
    cond (is_gnu_separator c) (gap ∷ pieces_from outside t)
    (cond (c == backslash) (pieces_from behind_backslash t)
    (cond (c == single_quote) (pieces_from (in_single []) t)
    (cond (c == double_quote) (pieces_from (in_double []) t) (stands (c ∷ []) ∷ pieces_from outside t))))
pieces_from behind_backslash [] = stands [] ∷ []
pieces_from behind_backslash (c ∷ t) = stands (c ∷ []) ∷ pieces_from outside t
pieces_from (in_single m) [] = stands m ∷ []
pieces_from (in_single m) (c ∷ t) = cond (c == single_quote) (stands m ∷ pieces_from outside t) (pieces_from (in_single (m ++ c ∷ [])) t)
pieces_from (in_double m) [] = stands m ∷ []
pieces_from (in_double m) (c ∷ t) =
    cond (c == double_quote) (stands m ∷ pieces_from outside t)
    (cond (c == backslash) (pieces_from (in_double_behind_backslash m) t) (pieces_from (in_double (m ++ c ∷ [])) t))
pieces_from (in_double_behind_backslash m) [] = stands m ∷ []
pieces_from (in_double_behind_backslash m) (c ∷ t) = pieces_from (in_double (m ++ c ∷ [])) t

-- the pieces of a text
abbrev pub pieces : List ℕ → List Piece
pieces text = pieces_from outside text

-- ---- the arguments

-- an argument before the others, unless it is empty
abbrev pub keep : List ℕ → List (List ℕ) → List (List ℕ)
keep [] arguments = arguments
keep (b ∷ bs) arguments = (b ∷ bs) ∷ arguments

-- what is between separators, joined, if an argument has begun with these bytes
abbrev pub joined : List ℕ → List Piece → List (List ℕ)
joined begun [] = keep begun []
joined begun (gap ∷ ps) = keep begun (joined [] ps)
joined begun (stands m ∷ ps) = joined (begun ++ encode_utf8_all m) ps

-- the arguments of a text in UTF-8, from its characters
unfoldable pub gnu_arguments : List ℕ → List (List ℕ)
gnu_arguments text = joined [] (pieces text)

-- ---- laws

abbrev pub TextsHavePieces : Type 0
TextsHavePieces = (text : List ℕ) → ArePieces text (pieces text)

abbrev pub TextsHaveNoOtherPieces : Type 0
TextsHaveNoOtherPieces = (text : List ℕ) (ps : List Piece) → ArePieces text ps → ps ≡ pieces text

abbrev pub is_not_empty : List ℕ → Bool
is_not_empty [] = false
is_not_empty (c ∷ cs) = true

abbrev pub GivesNoEmptyArgument : Type 0
GivesNoEmptyArgument = (text : List ℕ) → list_all is_not_empty (gnu_arguments text) ≡ true

-- after an opening single quote: the word, in which each single quote becomes a closing quote, an escaped quote and an
-- opening quote; then the closing quote
abbrev pub in_single_quotes : List ℕ → List ℕ
in_single_quotes [] = single_quote ∷ []
in_single_quotes (c ∷ cs) = cond (c == single_quote) (single_quote ∷ backslash ∷ single_quote ∷ single_quote ∷ in_single_quotes cs) (c ∷ in_single_quotes cs)

-- a word as a shell's tools quote it
abbrev pub gnu_quoted : List ℕ → List ℕ
gnu_quoted word = single_quote ∷ in_single_quotes word

-- a word with a backslash before each character that has another meaning
abbrev pub gnu_escaped : List ℕ → List ℕ
gnu_escaped [] = []
gnu_escaped (c ∷ cs) = cond (is_gnu_separator c || c == backslash || c == single_quote || c == double_quote) (backslash ∷ c ∷ gnu_escaped cs) (c ∷ gnu_escaped cs)

-- a text of words that are not empty, quoted in this way and separated by spaces, gives these words
abbrev pub IsReadBack : (List ℕ → List ℕ) → Type 0
IsReadBack quoted = (words : List (List ℕ)) → list_all is_not_empty words ≡ true → gnu_arguments (join_with_byte space (map quoted words)) ≡ map encode_utf8_all words
