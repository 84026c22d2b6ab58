-- Command lines within limits.
use Rattle.std.specs.Prelude.{ℕ, ◌+◌, ◌&&◌, nat_le, Bool, List, [], ◌∷◌, length}
use Rattle.scl_files.specs.declared.expand.Limits.{Limits}

-- the limits where nothing else is said: a million words and openings, and 64 MB
abbrev pub standard : Limits
standard = record { words = 1000000; bytes = 67108864 }

-- the bytes of these texts together
abbrev pub bytes_in : List (List ℕ) → ℕ
bytes_in [] = 0
bytes_in (text ∷ texts) = length text + bytes_in texts

-- whether there are no more of these words than the limits allow, and no more bytes in them
abbrev pub is_within : Limits → List (List ℕ) → Bool
is_within most words = nat_le (length words) most.words && nat_le (bytes_in words) most.bytes
