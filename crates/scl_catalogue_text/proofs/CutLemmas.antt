-- Bytes before a mark, and those from it on.
use Rattle.std.proofs.Common.{◌≡◌, ℕ, suc, ◌-◌, ◌≤◌, ◌==◌, true, false, cond, List, [], ◌∷◌, length, take, refl, sym, ap, ◌∙◌, arith}
use Rattle.scl_catalogue_text.specs.Cutting.{from_mark, until_mark}

pub from-le : (mark : ℕ) (bs : List ℕ) → length (from_mark mark bs) ≤ length bs
from-le mark [] = omega arith
from-le mark (b ∷ bs) = elim (b == mark) as (λ t. length (cond t (b ∷ bs) (from_mark mark bs)) ≤ length (b ∷ bs)) [
  | true ↦ omega arith
  | false ↦ (let h = from-le mark bs in omega arith)
]

take-more : (b : ℕ) (bs : List ℕ) (n m : ℕ) → m ≤ n → take (suc n - m) (b ∷ bs) ≡ b ∷ take (n - m) bs
take-more b bs n m h = let e : suc n - m ≡ suc (n - m) = omega arith in rw e refl

take-none : (xs : List ℕ) (n : ℕ) → take (n - n) xs ≡ []
take-none xs n = let e : n - n ≡ 0 = omega arith in rw e refl

-- the bytes before the mark are those that are not from it on
pub until_from : (mark : ℕ) (bs : List ℕ) → until_mark mark bs ≡ take (length bs - length (from_mark mark bs)) bs
until_from mark [] = refl
until_from mark (b ∷ bs) = elim (b == mark) as (λ t. cond t [] (b ∷ until_mark mark bs) ≡ take (length (b ∷ bs) - length (cond t (b ∷ bs) (from_mark mark bs))) (b ∷ bs)) [
  | true ↦ sym (take-none (b ∷ bs) (length (b ∷ bs)))
  | false ↦ (let e = take-more b bs (length bs) (length (from_mark mark bs)) (from-le mark bs) in let r = ap (λ xs. b ∷ xs) (until_from mark bs) in r ∙ sym e)
]
