-- The MSVC text of a response file, from its characters.
use Rattle.std.specs.Prelude.{◌≡◌, ℕ, zero, suc, ◌+◌, ◌%◌, ◌==◌, ◌||◌, ◌&&◌, ◌↔◌, not, Bool, true, false, cond, List, [], ◌∷◌, ◌++◌, length, drop, map, encode_utf8, encode_utf8_all, slice_index}
use Rattle.std.specs.List.{flat_map, list_all, join_with_byte}
use Rattle.scl_values.specs.Each.{Each}
use Rattle.scl_files.specs.Characters.{space, tab, line_feed, carriage_return, backslash, double_quote}

-- space, tab, LF and CR
abbrev pub is_msvc_separator : ℕ → Bool
is_msvc_separator c = c == space || c == tab || c == line_feed || c == carriage_return

abbrev pub is_even : ℕ → Bool
is_even n = n % 2 == 0

-- ---- the context of a place in the text

-- the number of backslashes directly before the place
abbrev pub backslashes_before : List ℕ → ℕ → ℕ
backslashes_before text zero = 0
backslashes_before text (suc i) = cond (slice_index text i == backslash) (backslashes_before text i + 1) 0

-- the character at the place is a quote that toggles
abbrev pub toggles : List ℕ → ℕ → Bool
toggles text i = slice_index text i == double_quote && is_even (backslashes_before text i)

-- the number of toggling quotes before the place is odd
abbrev pub is_inside : List ℕ → ℕ → Bool
is_inside text zero = false
is_inside text (suc i) = cond (toggles text i) (not (is_inside text i)) (is_inside text i)

-- the character at the place is a separator that splits
abbrev pub splits : List ℕ → ℕ → Bool
splits text i = is_msvc_separator (slice_index text i) && not (is_inside text i)

-- the first of these characters that is not a backslash is a quote
abbrev pub leads_to_quote : List ℕ → Bool
leads_to_quote [] = false
leads_to_quote (c ∷ cs) = cond (c == backslash) (leads_to_quote cs) (c == double_quote)

-- ---- what a character means

-- what a character means, by the backslashes before it and whether a quote follows after any more backslashes. These mean
-- themselves: each second backslash before a quote, a quote that does not toggle, and every other character
abbrev pub meaning : ℕ → Bool → ℕ → List ℕ
meaning backslashes quoted c =
    cond (c == backslash) (cond (quoted && is_even backslashes) [] (backslash ∷ []))
    (cond (c == double_quote) (cond (is_even backslashes) [] (double_quote ∷ [])) (encode_utf8 c))

pub data Place : Type 0 where
  split : Place
  means : ℕ → List ℕ → Place

-- a place that splits, or a character and what it means
abbrev pub place : List ℕ → ℕ → Place
place text i =
    cond (splits text i) split
    (means (slice_index text i) (meaning (backslashes_before text i) (leads_to_quote (drop (i + 1) text)) (slice_index text i)))

-- n places, from i on
abbrev pub places : List ℕ → ℕ → ℕ → List Place
places text i zero = []
places text i (suc n) = place text i ∷ places text (i + 1) n

-- ---- the arguments

-- a stretch before the others, if it has a character
abbrev pub keep_stretch : List Place → List (List Place) → List (List Place)
keep_stretch [] others = others
keep_stretch (p ∷ ps) others = (p ∷ ps) ∷ others

-- the stretches between places that split; the first one has begun with these
abbrev pub stretches : List Place → List Place → List (List Place)
stretches begun [] = keep_stretch begun []
stretches begun (split ∷ ps) = keep_stretch begun (stretches [] ps)
stretches begun (means c bytes ∷ ps) = stretches (begun ++ means c bytes ∷ []) ps

-- what the characters of a stretch mean
abbrev pub place_meaning : Place → List ℕ
place_meaning split = []
place_meaning (means c bytes) = bytes

abbrev pub stretch_meaning : List Place → List ℕ
stretch_meaning stretch = flat_map place_meaning stretch

-- the stretches of a text
abbrev pub msvc_stretches : List ℕ → List (List Place)
msvc_stretches text = stretches [] (places text 0 (length text))

-- the arguments of a text in UTF-8, from its characters
unfoldable pub msvc_arguments : List ℕ → List (List ℕ)
msvc_arguments text = map stretch_meaning (msvc_stretches text)

-- ---- laws

-- a quote that toggles, and nothing else
abbrev pub is_toggle : Place → Bool
is_toggle split = false
is_toggle (means c []) = c == double_quote
is_toggle (means c (b ∷ bs)) = false

-- an argument is empty exactly if its stretch has only toggling quotes
abbrev pub OnlyQuotesGiveEmptyArguments : Type 0
OnlyQuotesGiveEmptyArguments = (text : List ℕ) → Each (λ stretch. (stretch_meaning stretch ≡ []) ↔ (list_all is_toggle stretch ≡ true)) (msvc_stretches text)

-- after any backslashes, the word ends or has a quote
abbrev pub leads_to_quote_or_end : List ℕ → Bool
leads_to_quote_or_end [] = true
leads_to_quote_or_end (c ∷ cs) = cond (c == backslash) (leads_to_quote_or_end cs) (c == double_quote)

-- after an opening quote: the word with a backslash before each quote, and with backslashes doubled before a quote and before
-- the end; then the closing quote
abbrev pub in_double_quotes : List ℕ → List ℕ
in_double_quotes [] = double_quote ∷ []
in_double_quotes (c ∷ cs) =
    cond (c == backslash) (cond (leads_to_quote_or_end cs) (backslash ∷ backslash ∷ in_double_quotes cs) (backslash ∷ in_double_quotes cs))
    (cond (c == double_quote) (backslash ∷ double_quote ∷ in_double_quotes cs) (c ∷ in_double_quotes cs))

-- a word as MSVC's tools quote it
abbrev pub msvc_quoted : List ℕ → List ℕ
msvc_quoted word = double_quote ∷ in_double_quotes word

-- a text of quoted words, separated by spaces, gives these words, empty ones too
abbrev pub QuotedWordsAreReadBack : Type 0
QuotedWordsAreReadBack = (words : List (List ℕ)) → msvc_arguments (join_with_byte space (map msvc_quoted words)) ≡ map encode_utf8_all words
