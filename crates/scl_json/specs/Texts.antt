-- Values of JSON: texts, arrays and objects, as bytes.
use Rattle.std.specs.Prelude.{ℕ, ◌+◌, ◌-◌, ◌/◌, ◌%◌, ◌==◌, ◌||◌, ◌&&◌, nat_lt, nat_le, not, Bool, cond, codes, List, [], ◌∷◌, ◌++◌, map}
use Rattle.std.specs.Char.{encode_utf8}
use Rattle.std.specs.List.{flat_map}
use Rattle.std.specs.Str.{chars, is_utf8}
use Rattle.scl_shell.specs.Shown.{is_hidden}
use Rattle.scl_values.specs.Escaped.{digit_of}

-- `\u` and four digits
abbrev pub unit_escape : ℕ → List ℕ
unit_escape n = codes "\\u" ++ digit_of (n / 4096 % 16) ∷ digit_of (n / 256 % 16) ∷ digit_of (n / 16 % 16) ∷ digit_of (n % 16) ∷ []

-- the two surrogates of a number from 10000 on, less 10000 (hexadecimal)
abbrev pub surrogates : ℕ → List ℕ
surrogates n = unit_escape (0xd800 + n / 1024 % 1024) ++ unit_escape (0xdc00 + n % 1024)

-- a character by its number, or by its two surrogates
abbrev pub number_escape : ℕ → List ℕ
number_escape c = cond (nat_lt c 0x1_0000) (unit_escape c) (surrogates (c - 0x1_0000))

-- the characters that have a meaning in a text of JSON: `"` and `\`
abbrev pub is_mark : ℕ → Bool
is_mark c = c == 34 || c == 92

-- the characters of ASCII that stand for themselves: space to `~`, without these
abbrev pub is_plain : ℕ → Bool
is_plain c = nat_le 32 c && nat_le c 126 && not (is_mark c)

-- a character in a text: by its number where it is hidden, after a backslash where it has a meaning
abbrev pub char_text : ℕ → List ℕ
char_text c = cond (is_hidden c) (number_escape c) (cond (is_mark c) (92 ∷ encode_utf8 c) (encode_utf8 c))

-- characters in double quotes
abbrev pub quoted : List ℕ → List ℕ
quoted cs = codes "\"" ++ flat_map char_text cs ++ codes "\""

-- a byte as two hexadecimal digits
abbrev pub digits_of : ℕ → List ℕ
digits_of b = digit_of (b / 16 % 16) ∷ digit_of (b % 16) ∷ []

-- bytes as digits, in double quotes
abbrev pub quoted_digits : List ℕ → List ℕ
quoted_digits bytes = codes "\"" ++ flat_map digits_of bytes ++ codes "\""

-- an object with the digits of bytes
abbrev pub raw : List ℕ → List ℕ
raw bytes = codes "{\"hex\":" ++ quoted_digits bytes ++ codes "}"

-- bytes: a text where they are UTF-8, else an object with their digits
abbrev pub text : List ℕ → List ℕ
text bytes = cond (is_utf8 bytes) (quoted (chars bytes)) (raw bytes)

-- the name of a member: a text; of bytes that are no UTF-8, their digits
abbrev pub name_text : List ℕ → List ℕ
name_text bytes = cond (is_utf8 bytes) (quoted (chars bytes)) (quoted_digits bytes)

abbrev pub behind_comma : List ℕ → List ℕ
behind_comma item = codes "," ++ item

-- texts with a comma between two
abbrev pub joined : List (List ℕ) → List ℕ
joined [] = []
joined (item ∷ items) = item ++ flat_map behind_comma items

abbrev pub array : List (List ℕ) → List ℕ
array items = codes "[" ++ joined items ++ codes "]"

abbrev pub object : List (List ℕ) → List ℕ
object members = codes "{" ++ joined members ++ codes "}"

abbrev pub member : List ℕ → List ℕ → List ℕ
member name value = name_text name ++ codes ":" ++ value

abbrev pub texts : List (List ℕ) → List ℕ
texts words = array (map text words)
