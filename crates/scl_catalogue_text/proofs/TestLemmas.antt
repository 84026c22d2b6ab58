-- Tests of bytes.
use Rattle.std.proofs.Common.{◌≡◌, ◌∙◌, ℕ, ◌==◌, Bool, true, false, not, ◌&&◌, ◌||◌, List, [], ◌∷◌, ◌++◌, refl, sym}
use Rattle.std.proofs.lemmas.Bool.{eqb-true}
use Rattle.std.proofs.lemmas.List.Folds.{list_all-append}
use Rattle.std.specs.List.{list_all}

pub and-left : (a b : Bool) → (a && b) ≡ true → a ≡ true
and-left true b h = refl
and-left false b h = h

pub and-right : (a b : Bool) → (a && b) ≡ true → b ≡ true
and-right true b h = h
and-right false b h = let no : false ≡ true = h in cc

pub both : {a b : Bool} → a ≡ true → b ≡ true → (a && b) ≡ true
both h k = rw (h, k) refl

pub or-left : (a b : Bool) → a ≡ true → (a || b) ≡ true
or-left a b h = rw h refl

pub or-right : (a b : Bool) → b ≡ true → (a || b) ≡ true
or-right true b h = refl
or-right false b h = h

-- the mark is not among the bytes
abbrev pub lacks_mark : ℕ → List ℕ → Bool
lacks_mark m bs = list_all (λ b. not (b == m)) bs

pub all-append : {X : Type 0} (p : X → Bool) (xs ys : List X) → list_all p xs ≡ true → list_all p ys ≡ true → list_all p (xs ++ ys) ≡ true
all-append p xs ys h k = list_all-append p xs ys ∙ both h k

pub all-weaker : {X : Type 0} (p q : X → Bool) → ((x : X) → p x ≡ true → q x ≡ true) → (xs : List X) → list_all p xs ≡ true → list_all q xs ≡ true
all-weaker p q w [] h = refl
all-weaker p q w (x ∷ xs) h = both (w x (and-left (p x) (list_all p xs) h)) (all-weaker p q w xs (and-right (p x) (list_all p xs) h))

pub or-false-right : (a b : Bool) → not (a || b) ≡ true → b ≡ false
or-false-right true b h = let no : false ≡ true = h in cc
or-false-right false true h = let no : false ≡ true = h in cc
or-false-right false false h = refl

no-mark : (p : ℕ → Bool) (m b : ℕ) → p m ≡ false → p b ≡ true → (t : Bool) → (b == m) ≡ t → not t ≡ true
no-mark p m b h k true e = let same : b ≡ m = eqb-true b m e in let no : p m ≡ true = rw same at k in let f : false ≡ true = sym h ∙ no in cc
no-mark p m b h k false e = refl

-- bytes that pass a test which the mark does not pass
pub lacks-passed : (p : ℕ → Bool) (m : ℕ) → p m ≡ false → (bs : List ℕ) → list_all p bs ≡ true → lacks_mark m bs ≡ true
lacks-passed p m h bs k = all-weaker p (λ b. not (b == m)) (λ b passed. no-mark p m b h passed (b == m) refl) bs k
