-- Lookups of lookups: their values, and how many rounds they take.
use Rattle.std.proofs.Common.{◌≡◌, ◌+◌, ◌≤◌, ℕ, zero, suc, List, [], ◌∷◌, ◌++◌, map, Option, None, Some, refl, sym, ap, ◌∙◌, arith}
use Rattle.std.specs.Option.{option_and_then, option_zip}
use Rattle.scl_lookup.specs.Keys.{all_there}
use Rattle.scl_lookup.specs.Lookups.{Answers, answers_on, Lookup, found, nothing, ask, value_on, IsWithin, found_if, and_then, first_answers, other_answers, both, all_of, BothAreBoth, BothAreWithin}
use Rattle.scl_lookup.specs.Questions.{Question, Machine}
use Rattle.scl_lookup.proofs.Maps.{and_then_some, zip_some, zip_none}

-- ---- values

pub value_then : {A B : Type 0} (m : Machine) (one : Lookup A) (more : A → Lookup B) → value_on m (and_then one more) ≡ option_and_then (λ x. value_on m (more x)) (value_on m one)
value_then m (found x) more = refl
value_then m nothing more = refl
value_then m (ask qs behind) more = value_then m (behind (answers_on m qs)) more

pub value_if : {A : Type 0} (m : Machine) (o : Option A) → value_on m (found_if o) ≡ o
value_if m None = refl
value_if m (Some x) = refl

firsts : (m : Machine) (qs rs : List Question) → first_answers qs rs (answers_on m (qs ++ rs)) ≡ answers_on m qs
firsts m [] rs = refl
firsts m (q ∷ qs) rs = ap (λ (rest : Answers qs). (m q, rest)) (firsts m qs rs)

others : (m : Machine) (qs rs : List Question) → other_answers qs rs (answers_on m (qs ++ rs)) ≡ answers_on m rs
others m [] rs = refl
others m (q ∷ qs) rs = others m qs rs

pub value_both : {A B : Type 0} (m : Machine) (one : Lookup A) (other : Lookup B) → value_on m (both one other) ≡ option_zip (value_on m one) (value_on m other)
value_both m (found x) other = value_then m other (λ y. found (x, y)) ∙ zip_some x (value_on m other)
value_both m nothing other = refl
value_both m (ask qs behind) (found y) = value_both m (behind (answers_on m qs)) (found y)
value_both m (ask qs behind) nothing = sym (zip_none (value_on m (behind (answers_on m qs))))
value_both m (ask qs behind) (ask rs beyond) =
    ap (λ answers. value_on m (both (behind answers) (beyond (other_answers qs rs (answers_on m (qs ++ rs)))))) (firsts m qs rs)
    ∙ ap (λ answers. value_on m (both (behind (answers_on m qs)) (beyond answers))) (others m qs rs)
    ∙ value_both m (behind (answers_on m qs)) (beyond (answers_on m rs))

pub both_are_both : {A : Type 0} → BothAreBoth A
both_are_both m one other = value_both m one other

pub value_all : {A : Type 0} (m : Machine) (lookups : List (Lookup A)) → value_on m (all_of lookups) ≡ all_there (map (value_on m) lookups)
value_all m [] = refl
value_all {A = A} m (first ∷ rest) =
    value_then m (both first (all_of rest)) (λ values. found (values.0 ∷ values.1))
    ∙ ap (option_and_then (λ (values : A × List A). Some (values.0 ∷ values.1))) (value_both m first (all_of rest) ∙ ap (option_zip (value_on m first)) (value_all m rest))
    ∙ and_then_some (λ (values : A × List A). values.0 ∷ values.1) (option_zip (value_on m first) (all_there (map (value_on m) rest)))

-- ---- rounds

pub more_rounds : {A : Type 0} (n k : ℕ) (one : Lookup A) → n ≤ k → IsWithin n one → IsWithin k one
more_rounds n k (found x) le h = tt
more_rounds n k nothing le h = tt
more_rounds zero k (ask qs behind) le h = absurd h
more_rounds (suc n) zero (ask qs behind) le h = absurd (omega (arith, le))
more_rounds (suc n) (suc k) (ask qs behind) le h = λ answers. more_rounds n k (behind answers) (omega (arith, le)) (h answers)

pub then_within : {A B : Type 0} (n k s : ℕ) (one : Lookup A) (more : A → Lookup B) → n + k ≤ s → IsWithin n one → ((x : A) → IsWithin k (more x)) → IsWithin s (and_then one more)
then_within n k s (found x) more le h all = more_rounds k s (more x) (omega (arith, le)) (all x)
then_within n k s nothing more le h all = tt
then_within zero k s (ask qs behind) more le h all = absurd h
then_within (suc n) k zero (ask qs behind) more le h all = absurd (omega (arith, le))
then_within (suc n) k (suc s) (ask qs behind) more le h all = λ answers. then_within n k s (behind answers) more (omega (arith, le)) (h answers) all

pub within_both : {A B : Type 0} (n : ℕ) (one : Lookup A) (other : Lookup B) → IsWithin n one → IsWithin n other → IsWithin n (both one other)
within_both n (found x) other h k = then_within n 0 n other (λ y. found (x, y)) (omega arith) k (λ y. tt)
within_both n nothing other h k = tt
within_both zero (ask qs behind) (found y) h k = h
within_both (suc n) (ask qs behind) (found y) h k = λ answers. within_both n (behind answers) (found y) (h answers) tt
within_both n (ask qs behind) nothing h k = tt
within_both zero (ask qs behind) (ask rs beyond) h k = h
within_both (suc n) (ask qs behind) (ask rs beyond) h k =
    λ answers. within_both n (behind (first_answers qs rs answers)) (beyond (other_answers qs rs answers)) (h (first_answers qs rs answers)) (k (other_answers qs rs answers))

pub both_are_within : {A : Type 0} → BothAreWithin A
both_are_within n one other h k = within_both n one other h k

pub if_within : {A : Type 0} (n : ℕ) (o : Option A) → IsWithin n (found_if o)
if_within n None = tt
if_within n (Some x) = tt

pub all_within : {A B : Type 0} (n : ℕ) (f : A → Lookup B) → ((x : A) → IsWithin n (f x)) → (xs : List A) → IsWithin n (all_of (map f xs))
all_within n f h [] = tt
all_within {B = B} n f h (x ∷ xs) =
    then_within n 0 n (both (f x) (all_of (map f xs))) (λ (values : B × List B). found (values.0 ∷ values.1)) (omega arith) (within_both n (f x) (all_of (map f xs)) (h x) (all_within n f h xs)) (λ values. tt)
