-- Fields of lines, and the bytes that they mean.
use Rattle.std.specs.Prelude.{ℕ, ◌<◌, ◌≤◌, ◌+◌, ◌-◌, ◌*◌, ◌&&◌, Bool, false, List, [], ◌∷◌, Option, Some, None, ◌==◌, nat_le, if◌then◌else◌}
use Rattle.std.specs.Option.{option_zip}
use Rattle.scl_files.specs.Characters.{tab, backslash}
use Rattle.scl_values.specs.Each.{Each}
use Rattle.scl_values.specs.Escaped.{is_plain}
use Rattle.scl_description.specs.Lines.{cut_at}

-- the value of a hexadecimal digit, a letter in lower case
abbrev pub digit_value : ℕ → Option ℕ
digit_value c =
    if nat_le 0x30 c && nat_le c 0x39 then Some (c - 0x30)
    else (if nat_le 0x61 c && nat_le c 0x66 then Some (c - 0x57) else None)

abbrev pub pair_value : Option ℕ → Option ℕ → Option ℕ
pair_value (Some high) (Some low) = Some (16 * high + low)
pair_value _ _ = None

-- the byte of a backslash, an x and two digits: sixteen times the value of the first, plus that of the second
abbrev pub escaped_byte : ℕ → ℕ → ℕ → ℕ → Option ℕ
escaped_byte first letter high low = if first == backslash && letter == 0x78 then pair_value (digit_value high) (digit_value low) else None

abbrev pub before : Option ℕ → Option (List ℕ) → Option (List ℕ)
before (Some b) (Some bs) = Some (b ∷ bs)
before _ _ = None

-- whether the first byte, if there is one, is plain
abbrev pub starts_plain : List ℕ → Bool
starts_plain [] = false
starts_plain (b ∷ _) = is_plain b

-- the bytes that a field's text means
abbrev pub field_of : List ℕ → Option (List ℕ)
field_of [] = Some []
field_of (b ∷ (x ∷ (h ∷ (l ∷ rest)))) =
    if is_plain b then before (Some b) (field_of (x ∷ (h ∷ (l ∷ rest)))) else before (escaped_byte b x h l) (field_of rest)
field_of (b ∷ rest) = if is_plain b then before (Some b) (field_of rest) else None

abbrev pub fields_of : Option (List ℕ × List ℕ) → Option (List ℕ × List ℕ)
fields_of None = None
fields_of (Some parts) = option_zip (field_of parts.0) (field_of parts.1)

-- two fields with a tab between them
abbrev pub two_fields : List ℕ → Option (List ℕ × List ℕ)
two_fields text = fields_of (cut_at tab text)

abbrev pub AreBytes : List ℕ → Type 0
AreBytes = Each (λ b. b < 256)

abbrev pub AreAllBytes : List (List ℕ) → Type 0
AreAllBytes = Each AreBytes

-- each byte is from 21 to 7E, hexadecimal: none is a space, a tab or an LF
abbrev pub ArePrintable : List ℕ → Type 0
ArePrintable = Each (λ b. (0x21 ≤ b) × (b ≤ 0x7e))
