-- What a search for a text says of the parts before and after the first match.
use Rattle.std.proofs.Common.{◌≡◌, ℕ, zero, suc, ◌<◌, ◌≤◌, true, false, nat_eq, List, [], ◌∷◌, ◌++◌, length, take, drop, None, Some, refl, sym, ap, ◌∙◌, arith, ⊎_elim}
use Rattle.std.proofs.lemmas.Bool.{cases_Bool}
use Rattle.std.specs.List.{starts_with}
use Rattle.std.specs.Str.Pattern.{FindsText, LacksTextAt, SplitsAroundMatch}
use Rattle.std.proofs.lemmas.Slice.Eq.{starts_is}
use Rattle.std.proofs.lemmas.Bool.Decides.{Decides-eqb}
use Rattle.std.proofs.Math.Seq.{drop-append_seam}
use Rattle.scl_values.specs.Texts.{before_text, after_text}

starts : (needle s rest : List ℕ) → s ≡ needle ++ rest → starts_with nat_eq s needle ≡ true
starts needle s rest e = (starts_is Decides-eqb s needle _ refl).1 rest e

starts_not : (needle s : List ℕ) → LacksTextAt needle s 0 → starts_with nat_eq s needle ≡ false
starts_not needle s lacks =
    ⊎_elim (λ e. absurd (lacks _ ((starts_is Decides-eqb s needle _ refl).0 e))) (λ e. e) (cases_Bool (starts_with nat_eq s needle))

pub before_text_none : (needle s : List ℕ) → ((i : ℕ) → i ≤ length s → LacksTextAt needle s i) → before_text needle s ≡ s
before_text_none needle [] lacks = refl
before_text_none needle (x ∷ xs) lacks =
    rw (starts_not needle (x ∷ xs) (lacks 0 (omega arith)))
    (ap (λ t. x ∷ t) (before_text_none needle xs (λ i h. lacks (suc i) (omega arith))))

pub after_text_none : (needle s : List ℕ) → ((i : ℕ) → i ≤ length s → LacksTextAt needle s i) → after_text needle s ≡ None
after_text_none needle [] lacks = rw (starts_not needle [] (lacks 0 (omega arith))) refl
after_text_none needle (x ∷ xs) lacks =
    rw (starts_not needle (x ∷ xs) (lacks 0 (omega arith))) (after_text_none needle xs (λ i h. lacks (suc i) (omega arith)))

drop-nil : (i : ℕ) → drop {A = ℕ} i [] ≡ []
drop-nil zero = refl
drop-nil (suc i) = refl

take-nil : (i : ℕ) → take {A = ℕ} i [] ≡ []
take-nil zero = refl
take-nil (suc i) = refl

rest-nil : (needle rest : List ℕ) → [] ≡ needle ++ rest → rest ≡ []
rest-nil [] rest e = sym e
rest-nil (x ∷ xs) rest e = cc

module _ (needle rest : List ℕ) where
  pub before_text_found : (s : List ℕ) (i : ℕ) → ((k : ℕ) → k < i → LacksTextAt needle s k) → drop i s ≡ needle ++ rest → before_text needle s ≡ take i s
  before_text_found [] i lacks e = sym (take-nil i)
  before_text_found (x ∷ xs) zero lacks e = rw (starts needle (x ∷ xs) rest e) refl
  before_text_found (x ∷ xs) (suc i) lacks e =
      rw (starts_not needle (x ∷ xs) (lacks 0 (omega arith)))
      (ap (λ t. x ∷ t) (before_text_found xs i (λ k h. lacks (suc k) (omega arith)) e))

  pub after_text_found : (s : List ℕ) (i : ℕ) → ((k : ℕ) → k < i → LacksTextAt needle s k) → drop i s ≡ needle ++ rest → after_text needle s ≡ Some rest
  after_text_found [] i lacks e =
      let nothing : [] ≡ needle ++ rest = sym (drop-nil i) ∙ e in
      rw (starts needle [] rest nothing) (ap (λ t. Some t) (sym (rest-nil needle rest nothing)))
  after_text_found (x ∷ xs) zero lacks e = rw (starts needle (x ∷ xs) rest e) (ap (λ t. Some (drop (length needle) t)) e ∙ ap (λ t. Some t) (drop-append_seam needle rest))
  after_text_found (x ∷ xs) (suc i) lacks e =
      rw (starts_not needle (x ∷ xs) (lacks 0 (omega arith))) (after_text_found xs i (λ k h. lacks (suc k) (omega arith)) e)

-- the same, from the result of a search
pub split_none : (needle s : List ℕ) → FindsText needle s None → (before_text needle s ≡ s) × (after_text needle s ≡ None)
split_none needle s lacks = (before_text_none needle s lacks, after_text_none needle s lacks)

pub split_found : (needle s front back : List ℕ) → SplitsAroundMatch (FindsText needle) s front back → (before_text needle s ≡ front) × (after_text needle s ≡ Some back)
split_found needle s front back h =
    (before_text_found needle (drop h.1 s) s h.0 h.2.0 h.2.1.split ∙ sym h.3, after_text_found needle (drop h.1 s) s h.0 h.2.0 h.2.1.split ∙ ap (λ t. Some t) (sym h.4))
