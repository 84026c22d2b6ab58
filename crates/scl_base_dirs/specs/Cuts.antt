-- A text cut at the first of some byte.
use Rattle.std.specs.Prelude.{◌≡◌, ℕ, ◌==◌, not, Bool, true, List, ◌∷◌, ◌++◌, Option, None}
use Rattle.std.specs.List.{list_all, last_or, slice_split}

-- no byte of the text is this one
abbrev pub has_none : ℕ → List ℕ → Bool
has_none mark text = list_all (λ byte. not (byte == mark)) text

-- the parts between the bytes that are this one
abbrev pub parts : ℕ → List ℕ → List (List ℕ)
parts mark text = slice_split (λ byte. byte == mark) text

-- what follows the last byte that is this one, or all
abbrev pub last_part : ℕ → List ℕ → Option (List ℕ)
last_part mark text = last_or None (parts mark text)

-- the text before the first byte that is this one, and after it
pub record IsCutAt (mark : ℕ) (text before after : List ℕ) : Type 0 where
  pub whole : text ≡ before ++ mark ∷ after
  pub first : has_none mark before ≡ true
