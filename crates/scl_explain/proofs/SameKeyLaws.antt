-- Comparing rows.
use Rattle.std.proofs.Common.{◌≡◌, ◌&&◌, ℕ, List, [], ◌∷◌, Vec, nat_eq, refl, ap, ◌∙◌}
use Rattle.std.specs.Borrow.{Bor}
use Rattle.std.specs.declared.alloc.Global.{Global}
use lib.Pointwise.{pointwise}
use Rattle.scl_values.specs.Words.{words_of}
use Rattle.scl_explain.specs.Borrowed.{borrowed}
use Rattle.scl_explain.specs.SameKeys.{are_same}

pub same_words : (xs ys : List (Vec ℕ Global)) → pointwise (λ x y. pointwise nat_eq x.items y.items) xs ys ≡ pointwise (pointwise nat_eq) (words_of xs) (words_of ys)
same_words [] [] = refl
same_words [] (y ∷ ys) = refl
same_words (x ∷ xs) [] = refl
same_words (x ∷ xs) (y ∷ ys) = ap (λ b. pointwise nat_eq x.items y.items && b) (same_words xs ys)

pub same_rows : (xs ys : List (Bor (List (Vec ℕ Global)))) → pointwise (λ x y. pointwise (λ a b. pointwise nat_eq a.items b.items) x.now y.now) xs ys ≡ are_same (borrowed xs) (borrowed ys)
same_rows [] [] = refl
same_rows [] (y ∷ ys) = refl
same_rows (x ∷ xs) [] = refl
same_rows (x ∷ xs) (y ∷ ys) =
    ap (λ b. b && pointwise (λ v w. pointwise (λ a b. pointwise nat_eq a.items b.items) v.now w.now) xs ys) (same_words x.now y.now)
    ∙ ap (λ b. pointwise (pointwise nat_eq) (words_of x.now) (words_of y.now) && b) (same_rows xs ys)
