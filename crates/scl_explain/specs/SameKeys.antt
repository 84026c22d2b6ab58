-- Whether two descriptions have a key, and what a cache hashes of its rows is the same.
use Rattle.std.specs.Prelude.{ℕ, ◌&&◌, ◌||◌, nat_eq, Bool, false, not, List, [], ◌∷◌, map, codes, filter, if◌then◌else◌}
use Rattle.std.specs.List.{list_any}
use Rattle.std.specs.Str.{bytes_eq}
use lib.Pointwise.{pointwise}

-- a row of the key
abbrev pub is_of_key : List (List ℕ) → Bool
is_of_key [] = false
is_of_key (name ∷ fields) = bytes_eq name (codes "key")

-- a row that does not say that the outcome may be kept
abbrev pub forbids : List (List ℕ) → Bool
forbids [] = false
forbids (name ∷ []) = bytes_eq name (codes "keep")
forbids (name ∷ (said ∷ fields)) = bytes_eq name (codes "keep") && not (bytes_eq said (codes "yes"))

-- there are rows of a key, and none forbids it
abbrev pub has_key : List (List (List ℕ)) → Bool
has_key rows = list_any is_of_key rows && not (list_any forbids rows)

-- ---- what is hashed

-- a part of the key whose words only say what to run or where to look: its answer is hashed, and not the words
abbrev pub hides_words : List ℕ → Bool
hides_words part = bytes_eq part (codes "plan") || (bytes_eq part (codes "run") || (bytes_eq part (codes "run-else") || bytes_eq part (codes "pch")))

-- what a cache hashes of a row of the key
abbrev pub hashed : List (List ℕ) → List (List ℕ)
hashed [] = []
hashed (name ∷ []) = name ∷ []
hashed (name ∷ (part ∷ fields)) = if hides_words part then name ∷ part ∷ [] else name ∷ part ∷ fields

-- a row of a macro, which a cache hashes only if the macro counts
abbrev pub is_shown : List (List ℕ) → Bool
is_shown [] = false
is_shown (name ∷ []) = false
is_shown (name ∷ (part ∷ fields)) = bytes_eq part (codes "shown")

-- what a cache hashes of the rows of a key, in order, if no macro counts
abbrev pub hashed_in : List (List (List ℕ)) → List (List (List ℕ))
hashed_in rows = map hashed (filter (λ row. is_of_key row && not (is_shown row)) rows)

-- rows with the same fields, in the same order
abbrev pub are_same : List (List (List ℕ)) → List (List (List ℕ)) → Bool
are_same rows others = pointwise (pointwise (pointwise nat_eq)) rows others

abbrev pub has_key_of : List (List (List ℕ)) → List (List (List ℕ)) → Bool
has_key_of rows others = has_key rows && has_key others && are_same (hashed_in rows) (hashed_in others)
