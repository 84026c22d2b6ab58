-- The first operator of a shell in a text, as `&&`: what is no word outside quotes.
use Rattle.std.specs.Prelude.{ℕ, ◌+◌, ◌==◌, ◌||◌, Bool, false, List, [], ◌∷◌, Option, None, Some, if◌then◌else◌}
use Rattle.scl_shell.specs.ShellReader.{mode_after}
use Rattle.scl_shell.specs.declared.split.Mode.{Mode}
use Rattle.scl_shell.specs.declared.split.Mode.TheVariants as mode

-- the bytes that begin an operator: `&`, `|`, `;`, `<`, `>`, `(` and `)`
abbrev pub begins_operator : ℕ → Bool
begins_operator c = c == 38 || c == 124 || c == 59 || c == 60 || c == 62 || c == 40 || c == 41

-- a byte begins an operator where it stands neither in quotes nor after a backslash
abbrev pub is_operator : Mode → ℕ → Bool
is_operator mode.Plain c = begins_operator c
is_operator mode.Escaped c = false
is_operator mode.Single c = false
is_operator mode.Double c = false
is_operator mode.DoubleEscaped c = false

abbrev pub operator_from : Mode → ℕ → List ℕ → Option ℕ
operator_from m at [] = None
operator_from m at (c ∷ t) = if is_operator m c then Some at else operator_from (mode_after m c) (at + 1) t

-- the index of the first byte that begins an operator
abbrev pub operator_at : List ℕ → Option ℕ
operator_at text = operator_from mode.Plain 0 text
