-- How bytes are cut.
use Rattle.std.specs.Prelude.{ℕ, ◌==◌, Bool, true, false, cond, List, [], ◌∷◌, filter}
use Rattle.std.specs.List.{slice_split}

-- the bytes before the first mark, and those from it on
abbrev pub until_mark : ℕ → List ℕ → List ℕ
until_mark mark [] = []
until_mark mark (b ∷ bs) = cond (b == mark) [] (b ∷ until_mark mark bs)

abbrev pub from_mark : ℕ → List ℕ → List ℕ
from_mark mark [] = []
from_mark mark (b ∷ bs) = cond (b == mark) (b ∷ bs) (from_mark mark bs)

abbrev pub behind_blanks : List ℕ → List ℕ
behind_blanks [] = []
behind_blanks (b ∷ bs) = cond (b == 32) (behind_blanks bs) (b ∷ bs)

-- the first word, and the bytes after it
unfoldable pub first_word : List ℕ → List ℕ
first_word bs = until_mark 32 (behind_blanks bs)

unfoldable pub other_words : List ℕ → List ℕ
other_words bs = from_mark 32 (behind_blanks bs)

-- the parts between the marks
unfoldable pub parts : ℕ → List ℕ → List (List ℕ)
parts mark bs = slice_split (λ b. b == mark) bs

abbrev pub is_word : List ℕ → Bool
is_word [] = false
is_word (b ∷ bs) = true

-- the words between blanks
unfoldable pub words : List ℕ → List (List ℕ)
words bs = filter is_word (parts 32 bs)
