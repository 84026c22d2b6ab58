-- The limit on the looks of a search, and statements about their count.
use Rattle.scl_values.specs.Row.{Row}
use Rattle.std.specs.Prelude.{List, [], ◌∷◌, length, ℕ, zero, suc, ◌+◌, ◌-◌, ◌*◌, ◌/◌, ◌^◌, ◌<◌, ◌≤◌, cond, ◌==◌}

-- the number of binary digits of a number, if it has at most that many
abbrev pub bits_up_to : ℕ → ℕ → ℕ
bits_up_to zero n = 0
bits_up_to (suc f) n = cond (n == 0) 0 (1 + bits_up_to f (n / 2))

-- the number of binary digits of a number
unfoldable pub bits : ℕ → ℕ
bits n = bits_up_to n n

-- a count of looks went up by at most n
pub record CountsUpTo (old new n : ℕ) : Type 0 where
  pub keeps : old ≤ new
  pub most : new ≤ old + n

-- a count went up, unless it had its greatest value
abbrev pub Rises : ℕ → ℕ → Type 0
Rises old new = old < 2 ^ 64 - 1 → old < new

-- the limit on the looks of a search: for each table (bytes of the word + 1) times (binary digits of the number of rows + 1)
abbrev pub looks_in : {K : Type 0} → List (List (Row K)) → List ℕ → ℕ
looks_in [] word = 0
looks_in (rows ∷ tables) word = (length word + 1) * (bits (length rows) + 1) + looks_in tables word
