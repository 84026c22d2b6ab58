use Rattle.std.proofs.Common.{◌≡◌, ℕ, ◌<◌, ◌/◌, ◌%◌, false, ◌∷◌, []}
use Rattle.std.proofs.lemmas.Fmt.{hex_byte}
use Rattle.std.specs.Fmt.{padded_integral, format_spec, digits}
use Rattle.std.specs.Prelude.{◌-◌, ◌^◌}
use Rattle.scl_values.specs.Escaped.{digit_of}

-- what `{:02x}` writes of a byte
pub escape_hexadecimal : (n : ℕ) → n < 256 → padded_integral (format_spec 32 0 4 2 (2 ^ 64 - 1)) false [] (digits 16 false n) ≡ digit_of (n / 16) ∷ digit_of (n % 16) ∷ []
escape_hexadecimal n h = hex_byte false n h
