-- The inside of `$'..'` in a text of bash, zsh or ksh, and the bytes that it means.
use Rattle.std.specs.Prelude.{◌≡◌, ◌≢◌, ◌<◌, ◌+◌, ◌*◌, ℕ, ◌==◌, ◌||◌, true, List, [], ◌∷◌}
use Rattle.scl_shell.specs.ShellText.{single_quote, backslash}

pub data InDollarQuotes : List ℕ → List ℕ → Type 0 where
  nothing : InDollarQuotes [] []
  one : (c : ℕ) (s m : List ℕ) → c ≢ single_quote → c ≢ backslash → InDollarQuotes s m → InDollarQuotes (c ∷ s) (c ∷ m)
  itself : (c : ℕ) (s m : List ℕ) → (c == single_quote || c == backslash) ≡ true → InDollarQuotes s m → InDollarQuotes (backslash ∷ c ∷ s) (c ∷ m)
  octal : (a b c : ℕ) (s m : List ℕ) → a < 4 → b < 8 → c < 8 → InDollarQuotes s m
      → InDollarQuotes (backslash ∷ (48 + a) ∷ (48 + b) ∷ (48 + c) ∷ s) ((a * 64 + b * 8 + c) ∷ m)
