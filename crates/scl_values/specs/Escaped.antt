-- Words in messages.
use Rattle.std.specs.Prelude.{ℕ, Bool, not, ◌&&◌, ◌+◌, ◌/◌, ◌%◌, nat_le, nat_lt, ◌==◌, List, [], ◌∷◌, ◌++◌, if◌then◌else◌, codes}
use Rattle.std.specs.List.{flat_map}

-- whether the byte is written as it is: from 21 to 7E, hexadecimal, except the backslash
abbrev pub is_plain : ℕ → Bool
is_plain b = nat_le 0x21 b && nat_le b 0x7e && not (b == 0x5c)

-- a hexadecimal digit of a number below sixteen, a letter in lower case
abbrev pub digit_of : ℕ → ℕ
digit_of n = if nat_lt n 10 then 0x30 + n else 0x57 + n

-- a byte in a message
abbrev pub escape : ℕ → List ℕ
escape b = if is_plain b then b ∷ [] else codes "\\x" ++ digit_of (b / 16) ∷ digit_of (b % 16) ∷ []

-- a word in a message
abbrev pub escaped : List ℕ → List ℕ
escaped word = flat_map escape word

-- a word in double quotes
abbrev pub quoted : List ℕ → List ℕ
quoted word = codes "\"" ++ escaped word ++ codes "\""

-- words in double quotes, a comma and a space before each
abbrev pub quoted_behind : List (List ℕ) → List ℕ
quoted_behind words = flat_map (λ word. codes ", " ++ quoted word) words

-- words in double quotes, separated by a comma and a space, in brackets
abbrev pub quoted_list : List (List ℕ) → List ℕ
quoted_list [] = codes "[" ++ codes "]"
quoted_list (word ∷ words) = codes "[" ++ quoted word ++ quoted_behind words ++ codes "]"
