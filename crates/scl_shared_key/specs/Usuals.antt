-- Names that are written alike wherever a compiler writes them.
use Rattle.std.specs.Prelude.{ℕ, Bool, nat_eq, nat_le, ◌==◌, ◌&&◌, ◌||◌, not, List, length, codes}
use Rattle.std.specs.List.{list_all, starts_with}

abbrev pub is_within : (least most : ℕ) → ℕ → Bool
is_within least most byte = nat_le least byte && nat_le byte most

abbrev pub is_letter_or_digit : ℕ → Bool
is_letter_or_digit byte = is_within 0x61 0x7a byte || (is_within 0x41 0x5a byte || is_within 0x30 0x39 byte)

-- a byte that is written as it is in line markers, rules of make and plans: a letter, a digit, or one of `/_.-+@~`
abbrev pub is_usual_byte : ℕ → Bool
is_usual_byte byte =
    is_letter_or_digit byte || (byte == 0x2f || (byte == 0x5f || (byte == 0x2e || (byte == 0x2d || (byte == 0x2b || (byte == 0x40 || byte == 0x7e))))))

-- an absolute directory with such bytes only
abbrev pub is_usual : List ℕ → Bool
is_usual dir = starts_with nat_eq dir (codes "/") && list_all is_usual_byte dir

-- there is a directory, and all are usual
abbrev pub are_usual : List (List ℕ) → Bool
are_usual dirs = not (length dirs == 0) && list_all is_usual dirs
