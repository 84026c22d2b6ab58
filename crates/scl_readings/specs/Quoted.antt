-- Quoted names, with escapes as in C.
use Rattle.std.specs.Prelude.{ℕ, ◌+◌, ◌-◌, ◌*◌, ◌%◌, ◌==◌, ◌&&◌, not, nat_le, Bool, true, false, cond, List, [], ◌∷◌, Option, None, Some, if◌then◌else◌}
use Rattle.scl_readings.specs.declared.quoted.At.{At}
use Rattle.scl_readings.specs.declared.quoted.At.TheVariants.{Byte, Escape, Digits}

-- where the first quote stands that no backslash escapes; the text begins at a place, and the flag says that a backslash stands
-- before it
abbrev pub closing_at : ℕ → Bool → List ℕ → Option ℕ
closing_at at is_escaped [] = None
closing_at at true (byte ∷ text) = closing_at (at + 1) false text
closing_at at false (byte ∷ text) = if byte == 0x22 then Some at else closing_at (at + 1) (byte == 0x5c) text

abbrev pub is_octal : ℕ → Bool
is_octal byte = nat_le 0x30 byte && nat_le byte 0x37

-- what C reads after a backslash: a letter for a byte below a space, or the byte itself
abbrev pub letter : ℕ → ℕ
letter byte =
    if byte == 0x61 then 7 else (if byte == 0x62 then 8 else (if byte == 0x74 then 9 else (if byte == 0x6e then 10 else (if byte == 0x76 then 11 else (if byte == 0x66 then 12
    else (if byte == 0x72 then 13 else byte))))))

-- the value of octal digits with one more, as a byte
abbrev pub with_digit : ℕ → ℕ → ℕ
with_digit value digit = (value * 8 + (digit - 0x30)) % 256

-- the rest of a quoted text as C reads it: from a byte on, after a backslash, or after octal digits, of which there may be some more
abbrev pub unquoted_from : At → List ℕ → List ℕ
unquoted_from Byte [] = []
unquoted_from Escape [] = 0x5c ∷ []
unquoted_from (Digits more value) [] = value ∷ []
unquoted_from Byte (byte ∷ text) = cond (byte == 0x5c) (unquoted_from Escape text) (byte ∷ unquoted_from Byte text)
unquoted_from Escape (byte ∷ text) = cond (is_octal byte) (unquoted_from (Digits 2 (with_digit 0 byte)) text) (letter byte ∷ unquoted_from Byte text)
unquoted_from (Digits more value) (byte ∷ text) =
    cond (not (more == 0) && is_octal byte) (unquoted_from (Digits (more - 1) (with_digit value byte)) text)
    (value ∷ cond (byte == 0x5c) (unquoted_from Escape text) (byte ∷ unquoted_from Byte text))

-- what the end of the text adds
abbrev pub at_end : At → List ℕ
at_end at = unquoted_from at []

abbrev pub unquoted : List ℕ → List ℕ
unquoted text = unquoted_from Byte text
