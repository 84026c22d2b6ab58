-- What is read of parts one after the other.
use Rattle.std.proofs.Common.{◌≡◌, ◌∙◌, Bor, ℕ, ◌+◌, ◌<◌, ◌≤◌, List, [], ◌∷◌, ◌++◌, length, map, get_or, drop, drop-cons, add-one, append_assoc, Result, Ok, Err, refl, sym, ap, subst}
use Rattle.std.proofs.lemmas.List.{append-nil, drop_all}
use Rattle.scl_catalogue_text.specs.Outcome.{StopsAt, after, each}
use Rattle.scl_catalogue_text.specs.Reading.{escape, escapes}
use Rattle.scl_catalogue_text.specs.declared.mistake.Mistake.{Mistake}
use Rattle.scl_catalogue_text.specs.declared.mistake.Stop.{Stop}
use Rattle.scl_catalogue_text.specs.declared.mistake.Stop.TheVariants as stop

abbrev bytes_of : List (Bor (List ℕ)) → List (List ℕ)
bytes_of parts = map (λ part. part.now) parts

next-part : (parts : List (Bor (List ℕ))) (i : ℕ) (d : Bor (List ℕ)) → i < length parts → bytes_of (drop i parts) ≡ (get_or parts i d).now ∷ bytes_of (drop (i + 1) parts)
next-part parts i d lt = ap bytes_of (drop-cons parts i d lt) ∙ (rw add-one refl)

no-part : (parts : List (Bor (List ℕ))) (i : ℕ) → length parts ≤ i → bytes_of (drop i parts) ≡ []
no-part parts i h = ap bytes_of (drop_all i parts h)

map-push : {B C : Type 0} (view : B → C) (xs : List B) (x : B) → map view (xs ++ x ∷ []) ≡ map view xs ++ view x ∷ []
map-push view [] x = refl
map-push view (y ∷ xs) x = ap (λ ys. view y ∷ ys) (map-push view xs x)

-- ---- parts of which each is read

pushed : {C : Type 0} (r : Result (List C) Mistake) (ys : List C) (y : C) → after (after r (λ zs. Ok (y ∷ zs))) (λ zs. Ok (ys ++ zs)) ≡ after r (λ zs. Ok ((ys ++ y ∷ []) ++ zs))
pushed (Ok zs) ys y = ap Ok (sym (append_assoc ys (y ∷ []) zs))
pushed (Err m) ys y = refl

pub each_step : {B C : Type 0} (f : List ℕ → Result C Mistake) (view : B → C) (parts : List (Bor (List ℕ))) (i : ℕ) (d : Bor (List ℕ)) (old new : List B) (x : B) (r : Result (List C) Mistake) → i < length parts → f (get_or parts i d).now ≡ Ok (view x) → new ≡ old ++ x ∷ []
    → after (each f (bytes_of (drop i parts))) (λ read. Ok (map view old ++ read)) ≡ r → after (each f (bytes_of (drop (i + 1) parts))) (λ read. Ok (map view new ++ read)) ≡ r
each_step f view parts i d old new x r lt one added h =
    let e : after (each f (bytes_of (drop i parts))) (λ read. Ok (map view old ++ read)) ≡ after (each f (bytes_of (drop (i + 1) parts))) (λ read. Ok ((map view old ++ view x ∷ []) ++ read)) =
    rw (next-part parts i d lt, one) (pushed (each f (bytes_of (drop (i + 1) parts))) (map view old) (view x)) in
    rw (added, map-push view old x) (sym e ∙ h)

pub each_end : {B C : Type 0} (f : List ℕ → Result C Mistake) (view : B → C) (parts : List (Bor (List ℕ))) (i : ℕ) (old : List B) (r : Result (List C) Mistake) → length parts ≤ i → after (each f (bytes_of (drop i parts))) (λ read. Ok (map view old ++ read)) ≡ r → r ≡ Ok (map view old)
each_end f view parts i old r h e =
    let f : after (each f (bytes_of (drop i parts))) (λ read. Ok (map view old ++ read)) ≡ Ok (map view old) = rw (no-part parts i h) (ap Ok (append-nil (map view old))) in
    sym e ∙ f

-- the same, where the first of what is left is read
pub each_next : {B C : Type 0} (f : List ℕ → Result C Mistake) (view : B → C) (xs ys : List (List ℕ)) (w : List ℕ) (old new : List B) (x : B) (r : Result (List C) Mistake) → xs ≡ w ∷ ys → f w ≡ Ok (view x) → new ≡ old ++ x ∷ []
    → after (each f xs) (λ read. Ok (map view old ++ read)) ≡ r → after (each f ys) (λ read. Ok (map view new ++ read)) ≡ r
each_next f view xs ys w old new x r e one added h =
    let step : after (each f xs) (λ read. Ok (map view old ++ read)) ≡ after (each f ys) (λ read. Ok ((map view old ++ view x ∷ []) ++ read)) =
    rw (e, one) (pushed (each f ys) (map view old) (view x)) in
    rw (added, map-push view old x) (sym step ∙ h)

pub each_last : {B C : Type 0} (f : List ℕ → Result C Mistake) (view : B → C) (xs : List (List ℕ)) (old : List B) (r : Result (List C) Mistake) → xs ≡ [] → after (each f xs) (λ read. Ok (map view old ++ read)) ≡ r → r ≡ Ok (map view old)
each_last f view xs old r e h =
    let end : after (each f xs) (λ read. Ok (map view old ++ read)) ≡ Ok (map view old) = rw e (ap Ok (append-nil (map view old))) in
    sym h ∙ end

-- ---- parts after backslashes

escaped-more : (e r : Result (List ℕ) Mistake) (old new : List ℕ) → after e (λ added. Ok (old ++ added)) ≡ Ok new → after (after e (λ bs. after r (λ rest. Ok (bs ++ rest)))) (λ rest. Ok (old ++ rest)) ≡ after r (λ rest. Ok (new ++ rest))
escaped-more (Ok bs) (Ok rest) old new h = let e : old ++ bs ≡ new = cc in rw (← e) (ap Ok (sym (append_assoc old bs rest)))
escaped-more (Ok bs) (Err m) old new h = refl
escaped-more (Err m) r old new h = cc

pub escapes_step : (parts : List (Bor (List ℕ))) (i : ℕ) (d : Bor (List ℕ)) (old new : List ℕ) (r : Result (List ℕ) Mistake) → i < length parts → after (escape (get_or parts i d).now) (λ added. Ok (old ++ added)) ≡ Ok new
    → after (escapes (bytes_of (drop i parts))) (λ rest. Ok (old ++ rest)) ≡ r → after (escapes (bytes_of (drop (i + 1) parts))) (λ rest. Ok (new ++ rest)) ≡ r
escapes_step parts i d old new r lt one h =
    let e : after (escapes (bytes_of (drop i parts))) (λ rest. Ok (old ++ rest)) ≡ after (escapes (bytes_of (drop (i + 1) parts))) (λ rest. Ok (new ++ rest)) =
    rw (next-part parts i d lt) (escaped-more (escape (get_or parts i d).now) (escapes (bytes_of (drop (i + 1) parts))) old new one) in
    sym e ∙ h

stopped : (s : Stop) (e r : Result (List ℕ) Mistake) (old : List ℕ) → StopsAt s (after e (λ added. Ok (old ++ added))) → StopsAt s (after (after e (λ bs. after r (λ rest. Ok (bs ++ rest)))) (λ rest. Ok (old ++ rest)))
stopped (stop.Mistake m) (Ok bs) r old h = cc
stopped (stop.Mistake m) (Err n) r old h = h
stopped stop.Memory e r old h = tt

pub escapes_stop : (s : Stop) (parts : List (Bor (List ℕ))) (i : ℕ) (d : Bor (List ℕ)) (old : List ℕ) (r : Result (List ℕ) Mistake) → i < length parts → StopsAt s (after (escape (get_or parts i d).now) (λ added. Ok (old ++ added)))
    → after (escapes (bytes_of (drop i parts))) (λ rest. Ok (old ++ rest)) ≡ r → StopsAt s r
escapes_stop s parts i d old r lt one h =
    let e : after (escapes (bytes_of (drop i parts))) (λ rest. Ok (old ++ rest)) ≡ after (after (escape (get_or parts i d).now) (λ bs. after (escapes (bytes_of (drop (i + 1) parts))) (λ rest. Ok (bs ++ rest)))) (λ rest. Ok (old ++ rest)) = rw (next-part parts i d lt) refl in
    subst (StopsAt s) (sym e ∙ h) (stopped s (escape (get_or parts i d).now) (escapes (bytes_of (drop (i + 1) parts))) old one)
