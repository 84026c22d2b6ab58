use Rattle.std.proofs.Common.{◌≡◌, ℕ, suc, ◌-◌, ◌∷◌, [], map, length, List, Option, Some, None, refl, ap, ◌∙◌, arith}
use Rattle.std.specs.List.{last_or, slice_get}
use Rattle.std.specs.Option.{option_map}
use Rattle.scl_key.proofs.made.last_of.Goals as goal

minus-one : (n : ℕ) → suc n - 1 ≡ n
minus-one n = omega arith

last-at : {A B : Type 0} (f : A → B) (o : Option B) (x : A) (xs : List A) → option_map f (slice_get (x ∷ xs) (length xs)) ≡ last_or o (map f (x ∷ xs))
last-at f o x [] = refl
last-at f o x (y ∷ ys) = last-at f (Some (f x)) y ys

-- the last is the element at the last index
last-get : {A B : Type 0} (f : A → B) (xs : List A) → option_map f (slice_get xs (length xs - 1)) ≡ last_or None (map f xs)
last-get f [] = refl
last-get f (x ∷ xs) = ap (λ n. option_map f (slice_get (x ∷ xs) n)) (minus-one (length xs)) ∙ last-at f None x xs

pub returns-in-Some : goal.returns-in-Some
returns-in-Some c = ap (option_map (λ file. file.now)) c.in-Some.ensures.value ∙ last-get (λ file. file.now) c.args.files.now

pub returns-in-None : goal.returns-in-None
returns-in-None c = ap (option_map (λ file. file.now)) c.in-None.ensures.value ∙ last-get (λ file. file.now) c.args.files.now
