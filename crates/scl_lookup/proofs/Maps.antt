-- Lists and options, element by element.
use Rattle.std.proofs.Common.{◌≡◌, List, [], ◌∷◌, map, Option, None, Some, refl, ap, ◌∙◌}
use Rattle.std.specs.Option.{option_and_then, option_map, option_zip}
use Rattle.scl_values.specs.Each.{Each}
use Rattle.scl_lookup.specs.Keys.{all_there}

pub map_alike : {A B C : Type 0} (f : A → B) (g : B → C) (h : A → C) → ((x : A) → g (f x) ≡ h x) → (xs : List A) → map g (map f xs) ≡ map h xs
map_alike f g h e [] = refl
map_alike f g h e (x ∷ xs) = ap (λ y. y ∷ map g (map f xs)) (e x) ∙ ap (λ ys. h x ∷ ys) (map_alike f g h e xs)

pub each : {A : Type 0} (P : A → Type 0) → ((x : A) → P x) → (xs : List A) → Each P xs
each P h [] = tt
each P h (x ∷ xs) = (h x, each P h xs)

-- what tells elements apart tells lists apart
pub maps_are_one : {A B : Type 0} (P Q : A → Type 0) (f : A → B) → ((x y : A) → P x → Q y → f x ≡ f y → x ≡ y)
    → (xs ys : List A) → Each P xs → Each Q ys → map f xs ≡ map f ys → xs ≡ ys
maps_are_one P Q f one [] [] h k e = refl
maps_are_one P Q f one [] (y ∷ ys) h k e = absurd (cc)
maps_are_one P Q f one (x ∷ xs) [] h k e = absurd (cc)
maps_are_one P Q f one (x ∷ xs) (y ∷ ys) h k e =
    ap (λ z. z ∷ xs) (one x y h.0 k.0 (cc)) ∙ ap (λ zs. y ∷ zs) (maps_are_one P Q f one xs ys h.1 k.1 (cc))

-- ---- options

pub and_then_alike : {A B : Type 0} (f g : A → Option B) → ((x : A) → f x ≡ g x) → (o : Option A) → option_and_then f o ≡ option_and_then g o
and_then_alike f g e None = refl
and_then_alike f g e (Some x) = e x

pub and_then_some : {A B : Type 0} (f : A → B) (o : Option A) → option_and_then (λ x. Some (f x)) o ≡ option_map f o
and_then_some f None = refl
and_then_some f (Some x) = refl

pub zip_some : {A B : Type 0} (x : A) (o : Option B) → option_and_then (λ y. Some (x, y)) o ≡ option_zip (Some x) o
zip_some x None = refl
zip_some x (Some y) = refl

pub zip_none : {A B : Type 0} (o : Option A) → option_zip {T = A} {U = B} o None ≡ None
zip_none None = refl
zip_none (Some x) = refl

-- ---- all values

zip_with : {A B : Type 0} (g : A → B) (o : Option A) (r : Option (List A))
    → option_map (λ values. values.0 ∷ values.1) (option_zip (option_map g o) (option_map (map g) r)) ≡ option_map (map g) (option_map (λ values. values.0 ∷ values.1) (option_zip o r))
zip_with g None r = refl
zip_with g (Some x) None = refl
zip_with g (Some x) (Some xs) = refl

pub all_with : {A B C : Type 0} (f : A → Option B) (f' : A → Option C) (g : B → C) → ((x : A) → f' x ≡ option_map g (f x))
    → (xs : List A) → all_there (map f' xs) ≡ option_map (map g) (all_there (map f xs))
all_with f f' g e [] = refl
all_with f f' g e (x ∷ xs) =
    ap (λ o. option_map (λ values. values.0 ∷ values.1) (option_zip o (all_there (map f' xs)))) (e x)
    ∙ ap (λ r. option_map (λ values. values.0 ∷ values.1) (option_zip (option_map g (f x)) r)) (all_with f f' g e xs)
    ∙ zip_with g (f x) (all_there (map f xs))

-- it has the property, if it is there
abbrev pub Where : {A : Type 0} → (A → Type 0) → Option A → Type 0
Where P None = Unit {0}
Where P (Some x) = P x

pub where_zip : {A : Type 0} (P : A → Type 0) (o : Option A) (r : Option (List A)) → Where P o → Where (Each P) r → Where (Each P) (option_map (λ values. values.0 ∷ values.1) (option_zip o r))
where_zip P None r h k = tt
where_zip P (Some x) None h k = tt
where_zip P (Some x) (Some xs) h k = (h, k)

pub all_where : {A B : Type 0} (P : B → Type 0) (f : A → Option B) → ((x : A) → Where P (f x)) → (xs : List A) → Where (Each P) (all_there (map f xs))
all_where P f h [] = tt
all_where P f h (x ∷ xs) = where_zip P (f x) (all_there (map f xs)) (h x) (all_where P f h xs)

pub where_map : {A B : Type 0} (P : A → Type 0) (Q : B → Type 0) (f : A → B) → ((x : A) → P x → Q (f x)) → (o : Option A) → Where P o → Where Q (option_map f o)
where_map P Q f h None k = tt
where_map P Q f h (Some x) k = h x k
