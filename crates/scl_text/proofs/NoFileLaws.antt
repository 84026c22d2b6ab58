-- A path that does not begin with @ does not with another extension either.
use Rattle.std.proofs.Common.{◌≡◌, ℕ, ◌==◌, true, false, List, [], ◌∷◌, ◌++◌, length, take, zero, suc, Option, None, Some, refl, subst, if◌then◌else◌}
use Rattle.std.specs.List.{slice_split, onto_first, before_last, last_or}
use Rattle.std.specs.Str.{bytes_eq}
use Rattle.scl_values.specs.Each.{Each}
use Rattle.scl_args.specs.Options.{begins_with_at}
use Rattle.scl_files.specs.Paths.{is_slash, is_dot, is_name, Place, placed, places, places_after, unless_parent, file_place, stem_of_name, extended_at, with_extension}

abbrev No : List ℕ → Type 0
No w = begins_with_at w ≡ false

-- ---- the first part

abbrev FirstNo : List (List ℕ) → Type 0
FirstNo [] = Unit {0}
FirstNo (p ∷ ps) = No p

onto-no : (x : ℕ) (xs : List ℕ) (parts : List (List ℕ)) → No (x ∷ xs) → FirstNo (onto_first x parts)
onto-no x xs [] n = n
onto-no x xs (p ∷ ps) n = n

first-no : (path : List ℕ) → No path → FirstNo (slice_split is_slash path)
first-no [] n = refl
first-no (x ∷ xs) n = elim (is_slash x) as (λ b. FirstNo (if b then [] ∷ slice_split is_slash xs else onto_first x (slice_split is_slash xs))) [
  | true ↦ refl
  | false ↦ onto-no x xs (slice_split is_slash xs) n
]

-- ---- what is at a place, cut, and with more after it

stem-no : (name : List ℕ) → No name → No (stem_of_name name)
stem-no name n = elim (length (before_last is_dot name) == 0) as (λ b. No (if b then name else before_last is_dot name)) [ true ↦ n | false ↦ take-no _ name n ]
  where
    take-no : (k : ℕ) (w : List ℕ) → No w → No (take k w)
    take-no zero w n = refl
    take-no (suc k) [] n = refl
    take-no (suc k) (x ∷ xs) n = n

append-no : (a b : List ℕ) → No a → No b → No (a ++ b)
append-no [] b n m = m
append-no (x ∷ a) b n m = n

-- ---- places

-- the word has a first byte, and that is not @
abbrev Led : List ℕ → Type 0
Led [] = ⊥
Led (x ∷ xs) = (x == 64) ≡ false

led-append : (a b : List ℕ) → Led a → Led (a ++ b)
led-append [] b l = absurd l
led-append (x ∷ a) b l = l

led-no : (a : List ℕ) → Led a → No a
led-no [] l = absurd l
led-no (x ∷ a) l = l

led-part : (p : List ℕ) → No p → Led (p ++ 47 ∷ [])
led-part [] n = refl
led-part (x ∷ p) n = n

abbrev PlaceNo : Place → Type 0
PlaceNo place = No (place.before ++ stem_of_name place.name)

led-places : (before : List ℕ) (parts : List (List ℕ)) → Led before → Each PlaceNo (places_after before parts)
led-places before [] l = tt
led-places before (p ∷ ps) l =
    let after = before ++ p ++ 47 ∷ [] in
    let later = led-places after ps (led-append (before ++ p) (47 ∷ []) (led-append before p l)) in
    elim (is_name p) as (λ b. Each PlaceNo (if b then placed before p ∷ places_after after ps else places_after after ps)) [
      | true ↦ (led-no (before ++ stem_of_name p) (led-append before (stem_of_name p) l), later)
      | false ↦ later
    ]

first-places : (parts : List (List ℕ)) → FirstNo parts → Each PlaceNo (places_after [] parts)
first-places [] n = tt
first-places (p ∷ ps) n =
    let after = p ++ 47 ∷ [] in
    let later = led-places after ps (led-part p n) in
    elim (is_name p) as (λ b. Each PlaceNo (if b then placed [] p ∷ places_after after ps else places_after after ps)) [
      | true ↦ (stem-no p n, later)
      | false ↦ later
    ]

last-so : (found : Option Place) (xs : List Place) (q : Place) → ((y : Place) → found ≡ Some y → PlaceNo y) → Each PlaceNo xs → last_or found xs ≡ Some q → PlaceNo q
last-so found [] q h e is = h q is
last-so found (x ∷ xs) q h e is = last-so (Some x) xs q (λ y s. let same : x ≡ y = cc in subst PlaceNo same e.0) e.1 is

unless_parent-is : (found : Option Place) (q : Place) → unless_parent found ≡ Some q → found ≡ Some q
unless_parent-is None q h = absurd (cc)
unless_parent-is (Some p) q h =
    elim (bytes_eq p.name (46 ∷ 46 ∷ [])) as (λ b. (if b then None else Some p) ≡ Some q → Some p ≡ Some q) [ true ↦ λ e. absurd (cc) | false ↦ λ e. e ] h

file_place-no : (path : List ℕ) (q : Place) → No path → file_place path ≡ Some q → PlaceNo q
unfolding places
file_place-no path q n e =
    last-so None (places path) q (λ y s. absurd (cc)) (first-places (slice_split is_slash path) (first-no path n)) (unless_parent-is (last_or None (places path)) q e)

extended-no : (path extension : List ℕ) (found : Option Place) → No path → No extension → ((q : Place) → found ≡ Some q → PlaceNo q) → No (extended_at path found extension)
extended-no path extension None n m h = n
extended-no path extension (Some place) n m h =
    let stem = place.before ++ stem_of_name place.name in
    append-no (stem ++ 46 ∷ []) extension (append-no stem (46 ∷ []) (h place refl) refl) m

pub with_extension-no : (path extension : List ℕ) → begins_with_at path ≡ false → begins_with_at extension ≡ false → begins_with_at (with_extension path extension) ≡ false
with_extension-no path extension n m = extended-no path extension (file_place path) n m (λ q e. file_place-no path q n e)
