-- Words that begin with a flag.
use Rattle.std.proofs.Common.{◌≡◌, ℕ, ◌≤◌, Bool, true, false, ◌&&◌, List, [], ◌∷◌, ◌++◌, length, drop, refl, sym, ◌∙◌, nat_eq, arith}
use Rattle.std.proofs.lemmas.Bool.Decides.{nat_tests}
use Rattle.std.proofs.Math.Seq.{drop-append_seam}
use Rattle.std.specs.List.{starts_with}
use Rattle.scl_values.specs.Row.{Row, joins, fits}

pub both : (a b : Bool) → (a && b) ≡ true → (a ≡ true) × (b ≡ true)
both true b h = (refl, h)
both false b h = absurd (cc)

same : (x : ℕ) → nat_eq x x ≡ true
same x = grind (arith, nat_tests)

equal : (x y : ℕ) → nat_eq x y ≡ true → x ≡ y
equal x y h = grind (arith, nat_tests)

pub starts-append : (f rest : List ℕ) → starts_with nat_eq (f ++ rest) f ≡ true
starts-append [] rest = refl
starts-append (x ∷ f) rest = rw (same x) (starts-append f rest)

pub starts-split : (w f : List ℕ) → starts_with nat_eq w f ≡ true → w ≡ f ++ drop (length f) w
starts-split w [] h = refl
starts-split [] (x ∷ f) h = absurd (cc)
starts-split (y ∷ w) (x ∷ f) h =
    let ab = both (nat_eq x y) (starts_with nat_eq w f) h in
    let e : x ≡ y = equal x y ab.0 in
    let more : w ≡ f ++ drop (length f) w = starts-split w f ab.1 in
    cc

-- of two prefixes of a word the longer begins with the other
pub starts-longer : (w f g : List ℕ) → starts_with nat_eq w f ≡ true → starts_with nat_eq w g ≡ true → length f ≤ length g → starts_with nat_eq g f ≡ true
starts-longer w [] g p q l = refl
starts-longer w (x ∷ f) [] p q l = absurd (omega arith)
starts-longer [] (x ∷ f) (z ∷ g) p q l = absurd (cc)
starts-longer (y ∷ w) (x ∷ f) (z ∷ g) p q l =
    let ab = both (nat_eq x y) (starts_with nat_eq w f) p in
    let cd = both (nat_eq z y) (starts_with nat_eq w g) q in
    let e : z ≡ x = equal z y cd.0 ∙ sym (equal x y ab.0) in
    rw (e, same x) (starts-longer w f g ab.1 cd.1 (omega arith))

pub starts-length : (w f : List ℕ) → starts_with nat_eq w f ≡ true → length f ≤ length w
starts-length w [] h = omega arith
starts-length [] (x ∷ f) h = absurd (cc)
starts-length (y ∷ w) (x ∷ f) h = let ab = both (nat_eq x y) (starts_with nat_eq w f) h in omega (arith, starts-length w f ab.1)

pub fits-append : {K : Type 0} (row : Row K) (rest : List ℕ) → fits row (row.flag ++ rest) ≡ joins row.shape rest
fits-append row rest = rw (starts-append row.flag rest, drop-append_seam row.flag rest) refl

pub fits-starts : {K : Type 0} (row : Row K) (word : List ℕ) → fits row word ≡ true → starts_with nat_eq word row.flag ≡ true
fits-starts row word h = (both (starts_with nat_eq word row.flag) (joins row.shape (drop (length row.flag) word)) h).0

pub fits-split : {K : Type 0} (row : Row K) (word : List ℕ) → fits row word ≡ true → (word ≡ row.flag ++ drop (length row.flag) word) × (joins row.shape (drop (length row.flag) word) ≡ true)
fits-split row word h = let ab = both (starts_with nat_eq word row.flag) (joins row.shape (drop (length row.flag) word)) h in (starts-split word row.flag ab.0, ab.1)
