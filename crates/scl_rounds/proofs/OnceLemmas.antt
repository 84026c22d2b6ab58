-- Each name once: what one more name adds.
use Rattle.std.proofs.Common.{◌≡◌, ℕ, Bool, true, false, cond, not, ◌||◌, filter, List, [], ◌∷◌, ◌++◌, Vec, refl, sym, ap, subst, ◌∙◌}
use Rattle.std.specs.List.{list_any}
use Rattle.std.specs.Str.{bytes_eq}
use Rattle.std.specs.declared.alloc.Global.{Global}
use Rattle.std.proofs.lemmas.List.{append-nil}
use Rattle.std.proofs.lemmas.Slice.Eq.{bytes_eq-Decides}
use Rattle.scl_values.specs.Words.{words_of}
use Rattle.scl_rounds.specs.Shown.{each_once, with_name}

abbrev is_among : List ℕ → List (List ℕ) → Bool
is_among name names = list_any (λ other. bytes_eq other name) names

-- ---- a name is among others if it is among them once

kept_by : (n name x : List ℕ) (kept names : List (List ℕ)) (b : Bool) → bytes_eq n x ≡ b → bytes_eq n name ≡ false → is_among name kept ≡ is_among name names
    → is_among name (cond (not b) (x ∷ kept) kept) ≡ (bytes_eq x name || is_among name names)
kept_by n name x kept names true e other rest =
    let one : n ≡ x = (bytes_eq-Decides n x).0 e in
    rest ∙ ap (λ b. b || is_among name names) (sym (subst (λ it. bytes_eq it name ≡ false) one other))
kept_by n name x kept names false e other rest = ap (λ b. bytes_eq x name || b) rest

among_kept : (n name : List ℕ) (names : List (List ℕ)) → bytes_eq n name ≡ false → is_among name (filter (λ other. not (bytes_eq n other)) names) ≡ is_among name names
among_kept n name [] e = refl
among_kept n name (x ∷ names) e = kept_by n name x (filter (λ other. not (bytes_eq n other)) names) names (bytes_eq n x) refl e (among_kept n name names e)

once_by : (n name : List ℕ) (once names : List (List ℕ)) (b : Bool) → bytes_eq n name ≡ b → is_among name once ≡ is_among name names
    → (b || is_among name (filter (λ other. not (bytes_eq n other)) once)) ≡ (b || is_among name names)
once_by n name once names true e rest = refl
once_by n name once names false e rest = among_kept n name once e ∙ rest

among_once : (name : List ℕ) (names : List (List ℕ)) → is_among name (each_once names) ≡ is_among name names
among_once name [] = refl
among_once name (n ∷ names) = once_by n name (each_once names) names (bytes_eq n name) refl (among_once name names)

-- ---- one more name

-- the name, unless it is among others
abbrev if_new : Bool → List ℕ → List (List ℕ)
if_new true name = []
if_new false name = name ∷ []

append_by : (p : List ℕ → Bool) (b : Bool) (x : List ℕ) (xs ys zs : List (List ℕ)) → xs ≡ ys ++ zs → cond b (x ∷ xs) xs ≡ cond b (x ∷ ys) ys ++ zs
append_by p true x xs ys zs e = ap (λ l. x ∷ l) e
append_by p false x xs ys zs e = e

filter_append : (p : List ℕ → Bool) (xs ys : List (List ℕ)) → filter p (xs ++ ys) ≡ filter p xs ++ filter p ys
filter_append p [] ys = refl
filter_append p (x ∷ xs) ys = append_by p (p x) x (filter p (xs ++ ys)) (filter p xs) (filter p ys) (filter_append p xs ys)

new_by : (p : List ℕ → Bool) (here among : Bool) (name : List ℕ) → p name ≡ not here → filter p (if_new among name) ≡ if_new (here || among) name
new_by p true true name h = refl
new_by p true false name h = ap (λ b. cond b (name ∷ []) []) h
new_by p false true name h = refl
new_by p false false name h = ap (λ b. cond b (name ∷ []) []) h

once_more : (names : List (List ℕ)) (name : List ℕ) → each_once (names ++ name ∷ []) ≡ each_once names ++ if_new (is_among name names) name
once_more [] name = refl
once_more (n ∷ names) name =
    ap (λ l. n ∷ l)
    (ap (filter (λ other. not (bytes_eq n other))) (once_more names name)
    ∙ filter_append (λ other. not (bytes_eq n other)) (each_once names) (if_new (is_among name names) name)
    ∙ ap (λ l. filter (λ other. not (bytes_eq n other)) (each_once names) ++ l) (new_by (λ other. not (bytes_eq n other)) (bytes_eq n name) (is_among name names) name refl))

words_more : (names : List (Vec ℕ Global)) (name : Vec ℕ Global) → words_of (names ++ name ∷ []) ≡ words_of names ++ name.items ∷ []
words_more [] name = refl
words_more (n ∷ names) name = ap (λ l. n.items ∷ l) (words_more names name)

with_by : (names : List (List ℕ)) (name : List ℕ) (among : Bool) → cond among names (names ++ name ∷ []) ≡ names ++ if_new among name
with_by names name true = sym (append-nil names)
with_by names name false = refl

pub once_with_name : (names : List (Vec ℕ Global)) (name : Vec ℕ Global) → with_name (each_once (words_of names)) name.items ≡ each_once (words_of (names ++ name ∷ []))
once_with_name names name =
    with_by (each_once (words_of names)) name.items (is_among name.items (each_once (words_of names)))
    ∙ ap (λ among. each_once (words_of names) ++ if_new among name.items) (among_once name.items (words_of names))
    ∙ sym (once_more (words_of names) name.items)
    ∙ ap each_once (sym (words_more names name))
