-- The places of a word, one by one.
use Rattle.std.proofs.Common.{◌≡◌, ℕ, List, [], ◌∷◌, ◌++◌, All, map, sym, ap, append_assoc, ◌∙◌}
use Rattle.memchr.specs.Find.{OccursAt, matches}
use Rattle.memchr.proofs.lemmas.CallerLemmas.{All-matches}

pub all_stand : (text word : List ℕ) → All (OccursAt text word) (matches text word 0)
all_stand text word = All-matches text word 0

pub one_more_behind : (after : ℕ → List ℕ) (found all : List (List ℕ)) (at : ℕ) (left rest : List ℕ) → left ≡ at ∷ rest → found ++ map after left ≡ all → (found ++ after at ∷ []) ++ map after rest ≡ all
one_more_behind after found all at left rest goes so = append_assoc found (after at ∷ []) (map after rest) ∙ ap (λ left. found ++ map after left) (sym goes) ∙ so
