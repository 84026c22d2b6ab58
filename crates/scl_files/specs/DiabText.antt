-- The text of a Diab options file, from its characters.
use Rattle.std.specs.Prelude.{◌≡◌, ℕ, ◌==◌, ◌||◌, ◌&&◌, nat_lt, not, Bool, true, cond, List, map, Option, None, Some, filter, encode_utf8_all}
use Rattle.std.specs.List.{list_all, list_any, slice_split, join_with_byte}
use Rattle.scl_files.specs.Characters.{single_quote, double_quote, space}
use Rattle.scl_files.specs.GnuText.{is_not_empty}

-- U+0009 to U+000D, U+0020, U+0085, U+00A0, U+1680, U+2000 to U+200A, U+2028, U+2029, U+202F, U+205F and U+3000
abbrev pub is_white_space : ℕ → Bool
is_white_space c =
    (nat_lt 0x8 c && nat_lt c 0xE) || c == 0x20 || c == 0x85 || c == 0xA0 || c == 0x1680 || (nat_lt 0x1FFF c && nat_lt c 0x200B)
    || c == 0x2028 || c == 0x2029 || c == 0x202F || c == 0x205F || c == 0x3000

abbrev pub is_quote : ℕ → Bool
is_quote c = c == single_quote || c == double_quote

-- the stretches between white space that have a character
abbrev pub diab_words : List ℕ → List (List ℕ)
diab_words text = filter is_not_empty (slice_split is_white_space text)

-- the arguments of a text in UTF-8, from its characters, unless it has a quote
unfoldable pub diab_arguments : List ℕ → Option (List (List ℕ))
diab_arguments text = cond (list_any is_quote text) None (Some (map encode_utf8_all (diab_words text)))

-- ---- a law

abbrev pub is_diab_word : List ℕ → Bool
is_diab_word word = is_not_empty word && list_all (λ c. not (is_white_space c || is_quote c)) word

-- a text of words without white space and quotes, separated by spaces, gives these words
abbrev pub PlainWordsAreReadBack : Type 0
PlainWordsAreReadBack = (words : List (List ℕ)) → list_all is_diab_word words ≡ true → diab_arguments (join_with_byte space words) ≡ Some (map encode_utf8_all words)
