-- Where words stand in a text.
use Rattle.std.specs.Prelude.{ℕ, Bool, List, Option, is_some}
use Rattle.memchr.specs.Find.{first_of, matches}

-- the first place where the word stands
abbrev pub first_place : List ℕ → List ℕ → Option ℕ
first_place word text = first_of (matches text word 0)

-- the word stands anywhere in the text
abbrev pub has_word : List ℕ → List ℕ → Bool
has_word word text = is_some (first_place word text)
