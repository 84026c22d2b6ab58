-- Bytes made visible for people and terminals.
use Rattle.std.specs.Prelude.{ℕ, ◌+◌, ◌/◌, ◌%◌, ◌==◌, ◌||◌, ◌&&◌, Bool, not, cond, length, nat_lt, take, codes, List, [], ◌∷◌, ◌++◌}
use Rattle.std.specs.List.{list_all, flat_map}
use Rattle.std.specs.Str.{chars, is_utf8}
use Rattle.scl_shell.specs.ShellText.{single_quote, backslash}
use Rattle.scl_shell.specs.Quoted.{between, quoted}

-- characters that turn or hide what is beside them, or are not seen: ends of lines and paragraphs, marks of direction and of
-- notes, and what Unicode names Default_Ignorable_Code_Point
unfoldable pub is_ignorable : ℕ → Bool
is_ignorable c =
    c == 0xad || c == 0x34f || c == 0x61c || between 0x115f c 0x1160 || between 0x17b4 c 0x17b5 || between 0x180b c 0x180f
    || between 0x200b c 0x200f || between 0x2028 c 0x202e || between 0x2060 c 0x206f || c == 0x3164 || between 0xfe00 c 0xfe0f
    || c == 0xfeff || c == 0xffa0 || between 0xfff0 c 0xfffb || between 0x1bca0 c 0x1bca3 || between 0x1d173 c 0x1d17a
    || between 0xe0000 c 0xe0fff

-- those, and controls (C0, DEL, C1), which a terminal obeys
abbrev pub is_hidden : ℕ → Bool
is_hidden c = between 0 c 0x1f || between 0x7f c 0x9f || is_ignorable c

-- bytes that are shown unchanged: UTF-8 without hidden characters
abbrev pub is_visible : List ℕ → Bool
is_visible bytes = is_utf8 bytes && list_all (λ c. not (is_hidden c)) (chars bytes)

-- a byte as its three octal digits: `\033`
abbrev pub octal : ℕ → List ℕ
octal byte = backslash ∷ (48 + byte / 64 % 8) ∷ (48 + byte / 8 % 8) ∷ (48 + byte % 8) ∷ []

-- space to `~` are unchanged
abbrev pub escaped : ℕ → List ℕ
escaped byte = cond (between 32 byte 126) (byte ∷ []) (octal byte)

-- bytes made visible: unchanged if they are visible, else in ASCII only
abbrev pub shown : List ℕ → List ℕ
shown bytes = cond (is_visible bytes) bytes (flat_map escaped bytes)

-- the most bytes of a text that a message repeats
abbrev pub most_repeated : ℕ
most_repeated = 200

-- the same in a message: of a long text only the first bytes
abbrev pub shown_briefly : List ℕ → List ℕ
shown_briefly bytes = shown (take most_repeated bytes) ++ cond (nat_lt most_repeated (length bytes)) (codes "..") []

-- a byte inside `$'..'`
abbrev pub in_dollar_quotes : ℕ → List ℕ
in_dollar_quotes byte = cond (byte == single_quote || byte == backslash) (backslash ∷ byte ∷ []) (escaped byte)

abbrev pub dollar_quoted : List ℕ → List ℕ
dollar_quoted word = 36 ∷ single_quote ∷ (flat_map in_dollar_quotes word ++ single_quote ∷ [])

-- a word for a terminal: quoted for any shell if it is visible, else in `$'..'`
abbrev pub shown_word : List ℕ → List ℕ
shown_word word = cond (is_visible word) (quoted word) (dollar_quoted word)

-- a word after others
abbrev pub shown_next : List ℕ → List ℕ
shown_next word = 32 ∷ shown_word word

-- the words for a terminal, separated by spaces
abbrev pub shown_text : List (List ℕ) → List ℕ
shown_text [] = []
shown_text (word ∷ words) = shown_word word ++ flat_map shown_next words
