-- The text of a file's bytes, in UTF-8.
use Rattle.std.specs.Prelude.{◌≡◌, ℕ, ◌+◌, ◌-◌, ◌*◌, ◌/◌, ◌%◌, ◌&&◌, nat_lt, nat_le, nat_eq, true, cond, List, [], ◌∷◌, ◌++◌, drop, map, Option, None, Some, encode_utf8_all, slice_index}
use Rattle.std.specs.Option.{option_map, option_and_then}
use Rattle.std.specs.Str.{is_utf8, all_scalars}
use Rattle.std.specs.List.{starts_with, flat_map}
use Rattle.std.specs.Char.Escape.{encode_utf16}
use Rattle.std.specs.Char.Utf16.{has_unpaired_surrogate, utf16_lossy_chars}
use Rattle.scl_files.specs.declared.decode.Order.{Order}
use Rattle.scl_files.specs.declared.decode.Order.TheVariants as orders

-- ---- UTF-8

-- the bytes, if they are UTF-8
abbrev pub utf8_text : List ℕ → Option (List ℕ)
utf8_text bytes = cond (is_utf8 bytes) (Some bytes) None

-- ---- UTF-16

abbrev pub unit_of : Order → ℕ → ℕ → ℕ
unit_of orders.LittleEndFirst a b = b * 256 + a
unit_of orders.BigEndFirst a b = a * 256 + b

-- the 16-bit numbers, if the number of bytes is even
abbrev pub units : Order → List ℕ → Option (List ℕ)
units order [] = Some []
units order (a ∷ []) = None
units order (a ∷ (b ∷ bytes)) = option_map (λ us. unit_of order a b ∷ us) (units order bytes)

-- the text of 16-bit numbers, if each surrogate is in a pair
abbrev pub units_text : List ℕ → Option (List ℕ)
units_text us = cond (has_unpaired_surrogate us) None (Some (encode_utf8_all (utf16_lossy_chars us)))

abbrev pub utf16_text : Order → List ℕ → Option (List ℕ)
utf16_text order bytes = option_and_then units_text (units order bytes)

-- ---- windows-1252

-- the characters of the bytes 80 to 9F
abbrev pub windows_1252 : List ℕ
windows_1252 =
    0x20AC ∷ 0x0081 ∷ 0x201A ∷ 0x0192 ∷ 0x201E ∷ 0x2026 ∷ 0x2020 ∷ 0x2021
    ∷ 0x02C6 ∷ 0x2030 ∷ 0x0160 ∷ 0x2039 ∷ 0x0152 ∷ 0x008D ∷ 0x017D ∷ 0x008F
    ∷ 0x0090 ∷ 0x2018 ∷ 0x2019 ∷ 0x201C ∷ 0x201D ∷ 0x2022 ∷ 0x2013 ∷ 0x2014
    ∷ 0x02DC ∷ 0x2122 ∷ 0x0161 ∷ 0x203A ∷ 0x0153 ∷ 0x009D ∷ 0x017E ∷ 0x0178 ∷ []

-- the character of a byte: its own code, except from 80 to 9F
abbrev pub windows_char : ℕ → ℕ
windows_char byte = cond (nat_le 0x80 byte && nat_lt byte 0xA0) (slice_index windows_1252 (byte - 0x80)) byte

abbrev pub windows_text : List ℕ → List ℕ
windows_text bytes = encode_utf8_all (map windows_char bytes)

-- ---- by the mark

abbrev pub utf8_mark : List ℕ
utf8_mark = 0xEF ∷ 0xBB ∷ 0xBF ∷ []

abbrev pub utf16_mark : Order → List ℕ
utf16_mark orders.LittleEndFirst = 0xFF ∷ 0xFE ∷ []
utf16_mark orders.BigEndFirst = 0xFE ∷ 0xFF ∷ []

-- the text of a file's bytes in UTF-8, without its mark; none if they are malformed
unfoldable pub decoded : List ℕ → Option (List ℕ)
decoded bytes =
    cond (starts_with nat_eq bytes utf8_mark) (utf8_text (drop 3 bytes))
    (cond (starts_with nat_eq bytes (utf16_mark orders.LittleEndFirst)) (utf16_text orders.LittleEndFirst (drop 2 bytes))
    (cond (starts_with nat_eq bytes (utf16_mark orders.BigEndFirst)) (utf16_text orders.BigEndFirst (drop 2 bytes)) (Some (windows_text bytes))))

-- ---- laws

-- the two bytes of a 16-bit number
abbrev pub unit_bytes : Order → ℕ → List ℕ
unit_bytes orders.LittleEndFirst unit = unit % 256 ∷ unit / 256 ∷ []
unit_bytes orders.BigEndFirst unit = unit / 256 ∷ unit % 256 ∷ []

-- characters as the bytes of a UTF-16 file
abbrev pub utf16_file : Order → List ℕ → List ℕ
utf16_file order cs = utf16_mark order ++ flat_map (unit_bytes order) (flat_map encode_utf16 cs)

abbrev pub Utf16FilesAreReadBack : Type 0
Utf16FilesAreReadBack = (order : Order) (cs : List ℕ) → all_scalars cs ≡ true → decoded (utf16_file order cs) ≡ Some (encode_utf8_all cs)

abbrev pub Utf8FilesAreReadBack : Type 0
Utf8FilesAreReadBack = (cs : List ℕ) → all_scalars cs ≡ true → decoded (utf8_mark ++ encode_utf8_all cs) ≡ Some (encode_utf8_all cs)
