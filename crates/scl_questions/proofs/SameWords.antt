-- Comparing words.
use Rattle.std.proofs.Common.{◌≡◌, ◌&&◌, List, [], ◌∷◌, ℕ, nat_eq, Vec, refl, ap}
use Rattle.std.specs.declared.alloc.Global.{Global}
use lib.Pointwise.{pointwise}
use Rattle.scl_values.specs.Words.{words_of}

pub pointwise-words : (xs ys : List (Vec ℕ Global)) → pointwise (λ x y. pointwise nat_eq x.items y.items) xs ys ≡ pointwise (pointwise nat_eq) (words_of xs) (words_of ys)
pointwise-words [] [] = refl
pointwise-words [] (y ∷ ys) = refl
pointwise-words (x ∷ xs) [] = refl
pointwise-words (x ∷ xs) (y ∷ ys) = ap (λ b. pointwise nat_eq x.items y.items && b) (pointwise-words xs ys)
