use Rattle.std.proofs.Common.{◌≡◌, ℕ, zero, suc, ◌+◌, ◌*◌, ◌/◌, ◌<◌, ◌≤◌, ◌^◌, lit<, true, false, cond, ◌==◌, refl, arith}
use Rattle.std.proofs.lemmas.Bool.Decides.{nat_tests}
use Rattle.std.proofs.lemmas.Nat.{pow-add}
use Rattle.scl_tables.specs.Probes.{bits, bits_up_to}

bits_mono : (f g n m : ℕ) → n ≤ f → m ≤ g → n ≤ m → bits_up_to f n ≤ bits_up_to g m
bits_mono zero g n m p q r = omega arith
bits_mono (suc f) zero n m p q r = let none : n ≡ 0 = omega arith in rw none (omega arith)
bits_mono (suc f) (suc g) n m p q r =
    elim (n == 0) as (λ a. (n == 0) ≡ a → cond a 0 (1 + bits_up_to f (n / 2)) ≤ cond (m == 0) 0 (1 + bits_up_to g (m / 2))) [
      | true ↦ λ e. omega arith
      | false ↦ λ e. elim (m == 0) as (λ b. (m == 0) ≡ b → 1 + bits_up_to f (n / 2) ≤ cond b 0 (1 + bits_up_to g (m / 2))) [
        | true ↦ λ h. absurd (grind (arith, nat_tests))
        | false ↦ λ h.
            let some : 0 < n = grind (arith, nat_tests) in
            let rest : bits_up_to f (n / 2) ≤ bits_up_to g (m / 2) = bits_mono f g (n / 2) (m / 2) (omega arith) (omega arith) (omega arith) in
            omega arith
      ] refl
    ] refl

pub bits_le : (n m : ℕ) → n ≤ m → bits n ≤ bits m
unfolding bits
bits_le n m l = bits_mono n m n m (omega arith) (omega arith) l

pub bits_half : (w v : ℕ) → 0 < w → v ≤ w / 2 → bits v + 1 ≤ bits w
unfolding bits
bits_half zero v h l = absurd (omega arith)
bits_half (suc w) v h l =
    let less : v ≤ w = omega arith in
    let rest : bits_up_to v v ≤ bits_up_to w ((suc w) / 2) = bits_mono v w v ((suc w) / 2) (omega arith) (omega arith) l in
    elim (suc w == 0) as (λ b. (suc w == 0) ≡ b → bits_up_to v v + 1 ≤ cond b 0 (1 + bits_up_to w ((suc w) / 2))) [
      | true ↦ λ e. absurd (grind (arith, nat_tests))
      | false ↦ λ e. omega arith
    ] refl

-- ---- `bits n` digits are enough for n, and no fewer

record Digits (n b : ℕ) : Type 0 where
  enough : n < 2 ^ b
  none : n ≡ 0 → 2 ^ b ≡ 1
  needed : 0 < n → 2 ^ b ≤ 2 * n

one_more : (n h b p : ℕ) → 2 ^ b ≡ p → 2 ^ (1 + b) ≡ 2 * p → 0 < n → n ≤ 2 * h + 1 → 2 * h ≤ n → Digits h b → Digits n (1 + b)
one_more n zero b p e f some most least d = let one = d.none refl in record { enough = omega (arith, d.enough); none = λ z. absurd (omega arith); needed = λ _. omega (arith, one) }
one_more n (suc h) b p e f some most least d = let most_h = d.needed (omega arith) in record { enough = omega (arith, d.enough); none = λ z. absurd (omega arith); needed = λ _. omega (arith, most_h) }

digits : (f n : ℕ) → n ≤ f → Digits n (bits_up_to f n)
digits zero n l = let none : n ≡ 0 = omega arith in rw none (record { enough = lit< tt; none = λ _. refl; needed = λ h. absurd (omega arith) })
digits (suc f) n l =
    elim (n == 0) as (λ b. (n == 0) ≡ b → Digits n (cond b 0 (1 + bits_up_to f (n / 2)))) [
      | true ↦ λ e. let none : n ≡ 0 = grind (arith, nat_tests) in rw none (record { enough = lit< tt; none = λ _. refl; needed = λ h. absurd (omega arith) })
      | false ↦ λ e.
          let some : 0 < n = grind (arith, nat_tests) in
          one_more n (n / 2) (bits_up_to f (n / 2)) (2 ^ bits_up_to f (n / 2)) refl (pow-add 2 1 (bits_up_to f (n / 2))) some (omega arith) (omega arith) (digits f (n / 2) (omega arith))
    ] refl

pub counts_digits : (n : ℕ) → (n < 2 ^ bits n) × (0 < n → 2 ^ bits n ≤ 2 * n)
unfolding bits
counts_digits n = let d = digits n n (omega arith) in (d.enough, d.needed)
