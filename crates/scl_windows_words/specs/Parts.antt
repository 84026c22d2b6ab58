-- A command line of Windows in parts of words. Backslashes are read first, then quotes, then gaps.
use Rattle.std.specs.Prelude.{ℕ, zero, suc, ◌+◌, ◌/◌, ◌%◌, ◌==◌, ◌||◌, Bool, cond, List, [], ◌∷◌, replicate}
use Rattle.scl_windows_words.specs.declared.reader.Gaps.{Gaps}
use Rattle.scl_windows_words.specs.declared.reader.Gaps.TheVariants as gaps
use Rattle.scl_windows_words.specs.declared.reader.Place.{Place}
use Rattle.scl_windows_words.specs.declared.reader.Place.TheVariants as places

abbrev pub double_quote : ℕ
double_quote = 34

abbrev pub backslash : ℕ
backslash = 92

-- space and tab; or also LF, CR and NUL
abbrev pub is_gap : Gaps → ℕ → Bool
is_gap gaps.Blanks c = c == 32 || c == 9
is_gap gaps.WhiteSpace c = c == 32 || c == 9 || c == 10 || c == 13 || c == 0

-- ---- backslashes

-- a byte that may have a meaning, or bytes that are themselves
pub data Item : Type 0 where
  bare : ℕ → Item
  taken : List ℕ → Item

abbrev pub backslashes : ℕ → List ℕ
backslashes n = replicate n backslash

-- backslashes before other items, if there are any
abbrev pub slashes : ℕ → List Item → List Item
slashes zero is = is
slashes (suc n) is = taken (backslashes (suc n)) ∷ is

-- after n backslashes: before a quote each two of them are one, and an odd one makes the quote itself; all others are themselves
abbrev pub items : ℕ → List ℕ → List Item
items n [] = slashes n []
items n (c ∷ cs) =
    cond (c == backslash) (items (n + 1) cs)
    (cond (c == double_quote) (slashes (n / 2) (cond (n % 2 == 0) (bare c) (taken (c ∷ [])) ∷ items 0 cs)) (slashes n (bare c ∷ items 0 cs)))

-- ---- quotes and gaps

-- a gap between words, bytes of a word, a quote right after one that closes, or the end inside quotes
pub data Part : Type 0 where
  gap : Part
  stands : List ℕ → Part
  doubled : Part
  open_end : Part

-- bare quotes open and close; outside quotes a bare byte may be a gap
abbrev pub parts : Gaps → Place → List Item → List Part
parts g places.Outside [] = []
parts g places.Outside (taken bytes ∷ is) = stands bytes ∷ parts g places.Outside is
parts g places.Outside (bare c ∷ is) =
    cond (c == double_quote) (stands [] ∷ parts g places.Inside is) (cond (is_gap g c) (gap ∷ parts g places.Outside is) (stands (c ∷ []) ∷ parts g places.Outside is))
parts g places.Inside [] = open_end ∷ []
parts g places.Inside (taken bytes ∷ is) = stands bytes ∷ parts g places.Inside is
parts g places.Inside (bare c ∷ is) = cond (c == double_quote) (parts g places.Closing is) (stands (c ∷ []) ∷ parts g places.Inside is)
parts g places.Closing [] = []
parts g places.Closing (taken bytes ∷ is) = stands bytes ∷ parts g places.Outside is
parts g places.Closing (bare c ∷ is) =
    cond (c == double_quote) (doubled ∷ parts g places.Inside is) (cond (is_gap g c) (gap ∷ parts g places.Outside is) (stands (c ∷ []) ∷ parts g places.Outside is))

-- the parts of a text
abbrev pub text_parts : Gaps → List ℕ → List Part
text_parts g text = parts g places.Outside (items 0 text)
