-- Names in a text.
use Rattle.std.specs.Prelude.{ℕ, ◌==◌, ◌&&◌, ◌||◌, not, nat_le, Bool, List, filter, length}
use Rattle.std.specs.List.{slice_split}

-- a letter, a digit or `_`
abbrev pub is_name_byte : ℕ → Bool
is_name_byte byte = byte == 0x5f || ((nat_le 0x30 byte && nat_le byte 0x39) || ((nat_le 0x41 byte && nat_le byte 0x5a) || (nat_le 0x61 byte && nat_le byte 0x7a)))

abbrev pub between_names : ℕ → Bool
between_names byte = not (is_name_byte byte)

abbrev pub has_bytes : List ℕ → Bool
has_bytes part = not (length part == 0)

-- the longest parts of letters, digits and `_`
abbrev pub names : List ℕ → List (List ℕ)
names text = filter has_bytes (slice_split between_names text)
