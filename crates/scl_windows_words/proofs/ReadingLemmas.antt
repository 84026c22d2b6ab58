-- Backslashes that stand, and bytes that are not these.
use Rattle.std.proofs.Common.{◌≡◌, ◌≢◌, ℕ, zero, suc, ◌==◌, false, List, ◌∷◌, refl, arith}
use Rattle.scl_windows_words.specs.Parts.{Item, Part, backslashes, slashes, stands, taken}
use Rattle.scl_windows_words.specs.Reading.{stood}

-- at least one backslash is an item
pub slashes-some : (n : ℕ) (is : List Item) → n ≢ 0 → slashes n is ≡ taken (backslashes n) ∷ is
slashes-some zero is h = absurd (h refl)
slashes-some (suc n) is h = refl

-- at least one backslash is a part
pub stood-some : (n : ℕ) (ps : List Part) → n ≢ 0 → stood n ps ≡ stands (backslashes n) ∷ ps
stood-some zero ps h = absurd (h refl)
stood-some (suc n) ps h = refl

pub differs : (a b : ℕ) → a ≢ b → (a == b) ≡ false
differs a b h = grind arith
