-- The first line of a text that is wrong.
use Rattle.std.specs.Prelude.{◌≡◌, ℕ, ◌+◌, List, [], ◌∷◌, ◌++◌, length, None, Result, Ok, Err}
use Rattle.scl_catalogue_text.specs.Cutting.{parts}
use Rattle.scl_catalogue_text.specs.Lines.{SoFar, with_line}
use Rattle.scl_catalogue_text.specs.Outcome.{after}
use Rattle.scl_catalogue_text.specs.declared.mistake.BadLine.{BadLine}
use Rattle.scl_catalogue_text.specs.declared.mistake.Mistake.{Mistake}
use Rattle.scl_catalogue_text.specs.declared.mistake.ReadError.{ReadError}
use Rattle.scl_catalogue_text.specs.declared.mistake.ReadError.TheVariants as error

-- what is read so far, with these lines
abbrev pub with_lines : SoFar → List (List ℕ) → Result SoFar Mistake
with_lines s [] = Ok s
with_lines s (line ∷ lines) = after (with_line s line) (λ next. with_lines next lines)

-- the lines before it are read, and it is not; the first line has the number n
pub record IsFirstWrong (n : ℕ) (s : SoFar) (lines : List (List ℕ)) (bad : BadLine) : Type 0 where
  pub front : List (List ℕ)
  pub line : List ℕ
  pub rest : List (List ℕ)
  pub so_far : SoFar
  pub is : lines ≡ front ++ line ∷ rest
  pub number : bad.line ≡ n + length front
  pub right : with_lines s front ≡ Ok so_far
  pub wrong : with_line so_far line ≡ Err bad.mistake

-- the error of a call on this text
abbrev pub IsWrong : List ℕ → ReadError → Type 0
IsWrong text (error.BadLine bad) = IsFirstWrong 1 (record { groups = []; entries = []; last = None }) (parts 10 text) bad
IsWrong text error.Memory = Unit {0}
