use Rattle.std.proofs.Common.{◌≡◌, ℕ, true, false, List, [], ◌∷◌, ◌++◌, map, refl, ap, nat_eq, ◌∙◌, arith}
use Rattle.std.proofs.lemmas.Bool.Decides.{nat_tests}
use Rattle.std.proofs.lemmas.Grind.{flat_map-append}
use Rattle.std.proofs.lemmas.List.{append-nil}
use Rattle.std.specs.List.{flat_map}
use Rattle.std.specs.Str.{bytes_eq}
use Rattle.scl_values.specs.Each.{Each}
use Rattle.scl_values.specs.Seen.{Plain, Seen, plain_seen}
use Rattle.scl_values.specs.Seen as plain
use Rattle.scl_args.specs.Commands.{Inner, CommandList, handed_words, handed, value_at, values_at}

eq-itself : (f : List ℕ) → bytes_eq f f ≡ true
eq-itself [] = refl
eq-itself (x ∷ f) = let s : nat_eq x x ≡ true = grind (arith, nat_tests) in rw s (eq-itself f)

pub each-map : {A : Type 0} (P Q : A → Type 0) → ((x : A) → P x → Q x) → (xs : List A) → Each P xs → Each Q xs
each-map P Q f [] h = tt
each-map P Q f (x ∷ xs) h = (f x h.0, each-map P Q f xs h.1)

pub each-both : {A : Type 0} (P Q R : A → Type 0) → ((x : A) → P x → Q x → R x) → (xs : List A) → Each P xs → Each Q xs → Each R xs
each-both P Q R f [] h k = tt
each-both P Q R f (x ∷ xs) h k = (f x h.0 k.0, each-both P Q R f xs h.1 k.1)

pub each-three : {A : Type 0} (P Q R S : A → Type 0) → ((x : A) → P x → Q x → R x → S x) → (xs : List A) → Each P xs → Each Q xs → Each R xs → Each S xs
each-three P Q R S f [] a b c = tt
each-three P Q R S f (x ∷ xs) a b c = (f x a.0 b.0 c.0, each-three P Q R S f xs a.1 b.1 c.1)

pub each-all : {A : Type 0} (P : A → Type 0) → ((x : A) → P x) → (xs : List A) → Each P xs
each-all P f [] = tt
each-all P f (x ∷ xs) = (f x, each-all P f xs)

pub values_at-append : {K : Type 0} (f : List ℕ) (xs ys : List (Plain K)) → values_at f (xs ++ ys) ≡ values_at f xs ++ values_at f ys
values_at-append f xs ys = flat_map-append (value_at f) xs ys

-- values of the flag
pub values_at-same : {K : Type 0} (f : List ℕ) (k : K) (ws : List (List ℕ)) → values_at f (map (λ w. let o : Plain K = plain.value f k w in o) ws) ≡ ws
values_at-same f k [] = refl
values_at-same f k (w ∷ ws) = rw (eq-itself f) (ap (λ x. w ∷ x) (values_at-same f k ws))

-- values of another flag
pub values_at-another : {K : Type 0} (f g : List ℕ) (k : K) → bytes_eq g f ≡ false → (ws : List (List ℕ)) → values_at f (map (λ w. let o : Plain K = plain.value g k w in o) ws) ≡ []
values_at-another f g k e [] = refl
values_at-another f g k e (w ∷ ws) = rw e (values_at-another f g k e ws)

-- options none of which has a value of the flag
pub values_at-none : {K : Type 0} (f : List ℕ) (os : List (Seen K)) → Each (λ o. value_at f (plain_seen o) ≡ []) os → values_at f (map plain_seen os) ≡ []
values_at-none f [] h = refl
values_at-none f (o ∷ os) h = rw h.0 (values_at-none f os h.1)

-- inner command lines have flags of their own
abbrev pub OtherFlag : {K J : Type 0} → Inner K J → Inner K J → Type 0
OtherFlag i other = (bytes_eq other.flag i.flag ≡ false) × (bytes_eq i.flag other.flag ≡ false)

abbrev pub HaveOwnFlags : {K J : Type 0} → List (Inner K J) → Type 0
HaveOwnFlags [] = Unit {0}
HaveOwnFlags (i ∷ is) = Each (OtherFlag i) is × HaveOwnFlags is

module _ {K J : Type 0} (l : CommandList K J) where
  none-handed : (i : Inner K J) (is : List (Inner K J)) → Each (OtherFlag i) is → values_at i.flag (flat_map (handed l) is) ≡ []
  none-handed i [] h = refl
  none-handed i (x ∷ is) h =
      values_at-append i.flag (handed l x) (flat_map (handed l) is)
      ∙ (ap (λ vs. vs ++ values_at i.flag (flat_map (handed l) is)) (values_at-another i.flag x.flag x.kind h.0.0 (handed_words l x)) ∙ none-handed i is h.1)

  -- each inner command line's flag has the words that were passed to it
  pub values-handed : (is : List (Inner K J)) → HaveOwnFlags is → Each (λ i. values_at i.flag (flat_map (handed l) is) ≡ handed_words l i) is
  values-handed [] h = tt
  values-handed (i ∷ is) h = (
    values_at-append i.flag (handed l i) (flat_map (handed l) is)
        ∙ (ap (λ vs. vs ++ values_at i.flag (flat_map (handed l) is)) (values_at-same i.flag i.kind (handed_words l i))
        ∙ (ap (λ vs. handed_words l i ++ vs) (none-handed i is h.0) ∙ append-nil (handed_words l i))),
    each-both (OtherFlag i) (λ x. values_at x.flag (flat_map (handed l) is) ≡ handed_words l x) (λ x. values_at x.flag (flat_map (handed l) (i ∷ is)) ≡ handed_words l x)
        (λ x o e. values_at-append x.flag (handed l i) (flat_map (handed l) is)
        ∙ (ap (λ vs. vs ++ values_at x.flag (flat_map (handed l) is)) (values_at-another x.flag i.flag i.kind o.1 (handed_words l i)) ∙ e)) is h.0 (values-handed is h.1),
  )
