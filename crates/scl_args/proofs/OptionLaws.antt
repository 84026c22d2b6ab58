-- Filters, last ones and first verdicts of two lists of options, one after the other.
use Rattle.std.proofs.Common.{◌≡◌, ℕ, Bool, true, cond, List, [], ◌∷◌, ◌++◌, Option, Some, None, refl, ap, sym, ◌∙◌, filter, map, length, slice_get, ◌-◌, Bor, suc, arith}
use Rattle.std.specs.List.{flat_map, list_any}
use Rattle.std.specs.Option.{option_map, option_copied, option_or}
use Rattle.std.proofs.lemmas.List.Concat.{flat_map-append}
use Rattle.std.proofs.lemmas.List.Elements.{filter-append}
use Rattle.std.proofs.lemmas.List.{map-append}
use Rattle.scl_values.specs.declared.argument.NormalizedDisposition.{NormalizedDisposition}
use Rattle.scl_values.specs.Seen.{Seen, text_of}
use Rattle.scl_args.specs.Options.{spelled_on, last, last_by, texts, list}

pub option_or-assoc : {A : Type 0} (a b c : Option A) → option_or (option_or a b) c ≡ option_or a (option_or b c)
option_or-assoc None b c = refl
option_or-assoc (Some x) b c = refl

pub option_or-None : {A : Type 0} (a : Option A) → option_or a None ≡ a
option_or-None None = refl
option_or-None (Some x) = refl

pub last-append : {A : Type 0} (xs ys : List A) → last (xs ++ ys) ≡ option_or (last ys) (last xs)
last-append [] ys = sym (option_or-None (last ys))
last-append (x ∷ xs) ys = ap (λ o. option_or o (Some x)) (last-append xs ys) ∙ option_or-assoc (last ys) (last xs) (Some x)

pub option_map-option_or : {A B : Type 0} (f : A → B) (a b : Option A) → option_map f (option_or a b) ≡ option_or (option_map f a) (option_map f b)
option_map-option_or f None b = refl
option_map-option_or f (Some x) b = refl

module _ {K : Type 0} where
  pub list-append : (to : List ℕ → NormalizedDisposition) (p : Seen K → Bool) (xs ys : List (Seen K)) → list to p (xs ++ ys) ≡ list to p xs ++ list to p ys
  list-append to p xs ys = ap (flat_map (spelled_on to)) (filter-append p xs ys) ∙ flat_map-append (spelled_on to) (filter p xs) (filter p ys)

  pub last_by-append : {B : Type 0} (f : Seen K → B) (p : Seen K → Bool) (xs ys : List (Seen K)) → option_map f (last_by p (xs ++ ys)) ≡ option_or (option_map f (last_by p ys)) (option_map f (last_by p xs))
  last_by-append f p xs ys =
      ap (λ zs. option_map f (last zs)) (filter-append p xs ys) ∙ ap (option_map f) (last-append (filter p xs) (filter p ys)) ∙ option_map-option_or f (last_by p ys) (last_by p xs)

  pub texts-append : (p : Seen K → Bool) (xs ys : List (Seen K)) → texts p (xs ++ ys) ≡ texts p xs ++ texts p ys
  texts-append p xs ys = ap (map text_of) (filter-append p xs ys) ∙ map-append text_of (filter p xs) (filter p ys)

  -- the last of a list is the last that passes a test, if it passes
  pub last_by-passes : (p : Seen K → Bool) (xs : List (Seen K)) (x : Seen K) → p x ≡ true → last_by p (xs ++ x ∷ []) ≡ Some x
  last_by-passes p xs x e =
      ap last (filter-append p xs (x ∷ [])) ∙ last-append (filter p xs) (filter p (x ∷ [])) ∙ ap (λ b. option_or (last (cond b (x ∷ []) [])) (last (filter p xs))) e

-- the last of a list is the element at its last index
last-at : {A B : Type 0} (f : A → B) (x : A) (xs : List A) → option_map f (slice_get (x ∷ xs) (length xs)) ≡ last (map f (x ∷ xs))
last-at f x [] = refl
last-at f x (y ∷ ys) = last-at f y ys ∙ sym (option_or-assoc (last (map f ys)) (Some (f y)) (Some (f x)))

minus-one : (n : ℕ) → suc n - 1 ≡ n
minus-one n = omega arith

pub last-get : {A B : Type 0} (f : A → B) (xs : List A) → option_map f (slice_get xs (length xs - 1)) ≡ last (map f xs)
last-get f [] = refl
last-get f (x ∷ xs) = ap (λ n. option_map f (slice_get (x ∷ xs) n)) (minus-one (length xs)) ∙ last-at f x xs

pub option_map-copied : {A B : Type 0} (f : A → B) (x : Option (Bor A)) → option_map (λ a. f a.now) x ≡ option_map f (option_copied x)
option_map-copied f None = refl
option_map-copied f (Some x) = refl

pub any-map : {A B : Type 0} (p : B → Bool) (f : A → B) (xs : List A) → list_any p (map f xs) ≡ list_any (λ x. p (f x)) xs
any-map p f [] = refl
any-map p f (x ∷ xs) = rw (any-map p f xs) refl
