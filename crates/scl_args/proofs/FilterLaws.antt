-- What filters over options find.
use Rattle.std.proofs.Common.{◌≡◌, ℕ, Bool, true, false, cond, ◌||◌, List, [], ◌∷◌, map, filter, Option, None, Some, refl, sym, ap, subst, ◌∙◌}
use Rattle.std.specs.List.{list_any}
use Rattle.std.specs.Option.{option_or}
use Rattle.scl_values.specs.Each.{Each}
use Rattle.scl_args.specs.Options.{last, texts}
use Rattle.scl_values.specs.Seen.{Seen, text_of}

module _ {A : Type 0} where
  last-nil : (P : A → Type 0) (x y : A) → option_or None (Some x) ≡ Some y → P x → P y
  last-nil P x y e h = let same : x ≡ y = cc in subst P same h

  -- what holds of each element holds of the last
  pub from-last : (P : A → Type 0) (xs : List A) (x : A) → Each P xs → last xs ≡ Some x → P x
  from-last P [] x h e = absurd (cc)
  from-last P (y ∷ xs) x h e =
      elim (last xs) as (λ l. last xs ≡ l → option_or l (Some y) ≡ Some x → P x) [
        | None ↦ λ _ k. last-nil P y x k h.0
        | Some z ↦ λ l k. let same : z ≡ x = cc in from-last P xs x h.1 (l ∙ ap (λ w. let s : Option A = Some w in s) same)
      ] refl e

  pub filter-same : (p q : A → Bool) (xs : List A) → Each (λ x. p x ≡ q x) xs → filter p xs ≡ filter q xs
  filter-same p q [] h = refl
  filter-same p q (x ∷ xs) h = rw h.0 (ap (λ ys. cond (q x) (x ∷ ys) ys) (filter-same p q xs h.1))

  -- ---- whether any passes

  any-first : (q : A → Bool) (x : A) (xs : List A) → list_any q (x ∷ xs) ≡ false → (q x ≡ false) × (list_any q xs ≡ false)
  any-first q x xs e = elim (q x) as (λ b. q x ≡ b → (b || list_any q xs) ≡ false → (q x ≡ false) × (list_any q xs ≡ false)) [
    | true ↦ λ f k. absurd (cc)
    | false ↦ λ f k. (f, k)
  ] refl e

  pub any-none : (q : A → Bool) (xs : List A) → list_any q xs ≡ false → Each (λ x. q x ≡ false) xs
  any-none q [] e = tt
  any-none q (x ∷ xs) e = let both = any-first q x xs e in (both.0, any-none q xs both.1)

  filter-none : (q : A → Bool) (xs : List A) → list_any q xs ≡ false → filter q xs ≡ []
  filter-none q [] e = refl
  filter-none q (x ∷ xs) e = let both = any-first q x xs e in rw (both.0) (filter-none q xs both.1)

  -- the last that passes, with what holds of each
  pub record HasLast (P : A → Type 0) (q : A → Bool) (xs : List A) : Type 0 where
    pub option : A
    pub is : last (filter q xs) ≡ Some option
    pub passes : q option ≡ true
    pub so : P option

  pub has-last : (P : A → Type 0) (q : A → Bool) (xs : List A) → Each P xs → list_any q xs ≡ true → HasLast P q xs
  has-last P q [] h e = absurd (cc)
  has-last P q (x ∷ xs) h e = elim (list_any q xs) as (λ b. list_any q xs ≡ b → (q x || b) ≡ true → HasLast P q (x ∷ xs)) [
    | true ↦ λ f k. let more = has-last P q xs h.1 f in record {
      option = more.option;
      is = elim (q x) as (λ b. last (cond b (x ∷ filter q xs) (filter q xs)) ≡ Some more.option) [ true ↦ rw (more.is) refl | false ↦ more.is ];
      passes = more.passes;
      so = more.so;
    }
    | false ↦ λ f k. let yes : q x ≡ true = passed (q x) k in record { option = x; is = rw (yes, filter-none q xs f) refl; passes = yes; so = h.0 }
  ] refl e
    where
      passed : (b : Bool) → (b || false) ≡ true → b ≡ true
      passed true k = refl
      passed false k = k

  -- ---- a test that implies another

  module _ (q p : A → Bool) (implies : (x : A) → q x ≡ true → p x ≡ true) where
    pub not-passed : (x : A) → p x ≡ false → q x ≡ false
    not-passed x e = elim (q x) as (λ b. q x ≡ b → b ≡ false) [
      | true ↦ λ f. absurd (let no : true ≡ false = sym (implies x f) ∙ e in cc)
      | false ↦ λ f. refl
    ] refl

    filter-twice : (xs : List A) → filter q (filter p xs) ≡ filter q xs
    filter-twice [] = refl
    filter-twice (x ∷ xs) = elim (p x) as (λ b. p x ≡ b → filter q (cond b (x ∷ filter p xs) (filter p xs)) ≡ cond (q x) (x ∷ filter q xs) (filter q xs)) [
      | true ↦ λ e. ap (λ ys. cond (q x) (x ∷ ys) ys) (filter-twice xs)
      | false ↦ λ e. rw (not-passed x e) (filter-twice xs)
    ] refl

-- if only one option passes a test, the last of those that pass a narrower one is that one
module _ {K : Type 0} (q p : Seen K → Bool) (implies : (o : Seen K) → q o ≡ true → p o ≡ true) where
  only-text : (os : List (Seen K)) (x : List ℕ) (o : Seen K) → map text_of os ≡ x ∷ [] → last (filter q os) ≡ Some o → text_of o ≡ x
  only-text [] x o t e = absurd (cc)
  only-text (y ∷ []) x o t e = elim (q y) as (λ b. last (cond b (y ∷ []) []) ≡ Some o → text_of o ≡ x) [
    | true ↦ λ k. let same : y ≡ o = cc in ap text_of (sym same) ∙ (cc)
    | false ↦ λ k. absurd (cc)
  ] e
  only-text (y ∷ z ∷ os) x o t e = absurd (cc)

  pub last-text : (os : List (Seen K)) (x : List ℕ) (o : Seen K) → texts p os ≡ x ∷ [] → last (filter q os) ≡ Some o → text_of o ≡ x
  last-text os x o t e = only-text (filter p os) x o t (ap last (filter-twice q p implies os) ∙ e)
