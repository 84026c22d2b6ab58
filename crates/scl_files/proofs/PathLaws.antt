-- Paths that are made of parts.
use Rattle.std.proofs.Common.{if◌then◌else◌, ◌≡◌, ℕ, suc, ◌-◌, ◌==◌, ◌&&◌, not, nat_eq, Bool, true, false, inl, inr, length, List, [], ◌∷◌, ◌++◌, drop, Option, None, Some, refl, sym, ap, ◌∙◌, arith, codes}
use Rattle.std.proofs.lemmas.Bool.{eqb-true, false≢true, cases_Bool, and_parts}
use Rattle.std.proofs.lemmas.List.{append_assoc, append-nil}
use Rattle.std.proofs.lemmas.Slice.Eq.{bytes_eq-Decides}
use Rattle.std.proofs.lemmas.Bool.Decides.{nat_tests}
use Rattle.std.specs.Option.{option_map}
use Rattle.std.specs.Bool.{Decides}
use Rattle.std.specs.Str.{bytes_eq}
use Rattle.std.specs.Cmp.Lexicographic.{pointwise}
use lib.Pointwise.{pointwise_decides}
use Rattle.std.specs.List.{slice_split, last_or}
use Rattle.scl_files.specs.Paths.{is_slash, is_one_part, is_file_name, is_name, Place, placed, places, places_after, Components, same_components, file_place, file_name, join, ends_with_slash, begins_with_slash}

-- parts with a slash after each
abbrev pub slashed : List (List ℕ) → List ℕ
slashed [] = []
slashed (part ∷ parts) = (part ++ 47 ∷ []) ++ slashed parts

abbrev pub AllParts : List (List ℕ) → Type 0
AllParts [] = Unit {0}
AllParts (part ∷ parts) = (is_one_part part ≡ true) × AllParts parts

pub negated : (a : Bool) → not a ≡ true → a ≡ false
negated true h = absurd (false≢true h)
negated false h = refl

-- the test decides whether the components are equal
pub same_components-Decides : (a b : Components) → Decides (same_components a b) (a ≡ b)
same_components-Decides a b = (
  λ h. let parts = and_parts (bytes_eq a.start b.start) (pointwise bytes_eq a.names b.names) h in
      let starts = (bytes_eq-Decides a.start b.start).0 parts.0 in
      let names = (pointwise_decides bytes_eq-Decides a.names b.names).0 parts.1 in
      ap (λ s. record { start = s; names = a.names }) starts ∙ ap (λ n. record { start = b.start; names = n }) names,
  λ e. rw e (rw ((bytes_eq-Decides b.start b.start).1 refl) ((pointwise_decides bytes_eq-Decides b.names b.names).1 refl)),
)

-- a part, split at slashes, is itself
split-part : (part : List ℕ) → is_one_part part ≡ true → slice_split is_slash part ≡ part ∷ []
split-part [] h = refl
split-part (x ∷ xs) h = let parts = and_parts (not (is_slash x)) (is_one_part xs) h in rw (negated (is_slash x) parts.0, split-part xs parts.1) refl

split-slash : (part rest : List ℕ) → is_one_part part ≡ true → slice_split is_slash (part ++ 47 ∷ rest) ≡ part ∷ slice_split is_slash rest
split-slash [] rest h = refl
split-slash (x ∷ xs) rest h = let parts = and_parts (not (is_slash x)) (is_one_part xs) h in rw (negated (is_slash x) parts.0, split-slash xs rest parts.1) refl

-- parts with a slash after each, and a last one
split-slashed : (parts : List (List ℕ)) (part : List ℕ) → AllParts parts → is_one_part part ≡ true → slice_split is_slash (slashed parts ++ part) ≡ parts ++ part ∷ []
split-slashed [] part a h = split-part part h
split-slashed (p ∷ ps) part a h = rw (append_assoc, append_assoc) (split-slash p (slashed ps ++ part) a.0 ∙ ap (λ qs. p ∷ qs) (split-slashed ps part a.1 h))

places_after-append : (before : List ℕ) (parts more : List (List ℕ)) → places_after before (parts ++ more) ≡ places_after before parts ++ places_after (before ++ slashed parts) more
places_after-append before [] more = rw append-nil refl
places_after-append before (p ∷ ps) more =
    let rest = places_after-append (before ++ p ++ 47 ∷ []) ps more in
    let same : before ++ p ++ 47 ∷ [] ++ slashed ps ≡ before ++ (p ++ 47 ∷ [] ++ slashed ps) = simp append_assoc in
    elim (is_name p) as (λ b. (if b then placed before p ∷ places_after (before ++ p ++ 47 ∷ []) (ps ++ more) else places_after (before ++ p ++ 47 ∷ []) (ps ++ more))
    ≡ (if b then placed before p ∷ places_after (before ++ p ++ 47 ∷ []) ps else places_after (before ++ p ++ 47 ∷ []) ps) ++ places_after (before ++ (p ++ 47 ∷ [] ++ slashed ps)) more) [
      | true ↦ ap (λ found. placed before p ∷ found) (rest ∙ ap (λ b. places_after (before ++ p ++ 47 ∷ []) ps ++ places_after b more) same)
      | false ↦ rest ∙ ap (λ b. places_after (before ++ p ++ 47 ∷ []) ps ++ places_after b more) same
    ]

last_place-append : (found : Option Place) (places : List Place) (place : Place) → last_or found (places ++ place ∷ []) ≡ Some place
last_place-append found [] place = refl
last_place-append found (p ∷ ps) place = last_place-append (Some p) ps place

-- a file name after parts
pub file_place-slashed : (parts : List (List ℕ)) (name : List ℕ) → AllParts parts → is_file_name name ≡ true → file_place (slashed parts ++ name) ≡ Some (placed (slashed parts) name)
unfolding places
file_place-slashed parts name a h =
    let plain = and_parts (is_one_part name) (is_name name && not (bytes_eq name (codes ".."))) h in
    let named = and_parts (is_name name) (not (bytes_eq name (codes ".."))) plain.1 in
    let last : places_after [] (slice_split is_slash (slashed parts ++ name)) ≡ places_after [] parts ++ placed (slashed parts) name ∷ [] =
    rw (split-slashed parts name a plain.0, places_after-append [] parts (name ∷ []), named.0) refl in
    rw (last, last_place-append None (places_after [] parts) (placed (slashed parts) name), negated (bytes_eq name (codes "..")) named.1) refl

-- a path split into parts with a slash after each, and a last one
pub record IsCut (path : List ℕ) (parts : List (List ℕ)) (last : List ℕ) : Type 0 where
  pub whole : path ≡ slashed parts ++ last
  pub parts_free : AllParts parts
  pub last_free : is_one_part last ≡ true

onto_cut : (x : ℕ) (path : List ℕ) (parts : List (List ℕ)) (last : List ℕ) → IsCut path parts last → is_slash x ≡ false → (ps : List (List ℕ)) × (l : List ℕ) × IsCut (x ∷ path) ps l
onto_cut x path [] last h other = ([], x ∷ last, record { whole = ap (λ p. x ∷ p) h.whole; parts_free = tt; last_free = rw other h.last_free })
onto_cut x path (p ∷ ps) last h other = ((x ∷ p) ∷ ps, last, record { whole = ap (λ q. x ∷ q) h.whole; parts_free = (rw other h.parts_free.0, h.parts_free.1); last_free = h.last_free })

pub cut_of : (path : List ℕ) → (parts : List (List ℕ)) × (last : List ℕ) × IsCut path parts last
cut_of [] = ([], [], record { whole = refl; parts_free = tt; last_free = refl })
cut_of (x ∷ xs) =
    let rest = cut_of xs in
    elim (cases_Bool (is_slash x)) [
      | inl slash ↦ ([] ∷ rest.0, rest.1, record { whole = rw (eqb-true x 47 slash) (ap (λ p. 47 ∷ p) rest.2.whole); parts_free = (refl, rest.2.parts_free); last_free = rest.2.last_free })
      | inr other ↦ onto_cut x xs rest.0 rest.1 rest.2 other
    ]

-- whether a path ends with a slash depends on its end
ends-behind : (x y : ℕ) (ys : List ℕ) → ends_with_slash (x ∷ (y ∷ ys)) ≡ ends_with_slash (y ∷ ys)
ends-behind x y ys =
    let more : suc (suc (length ys)) - 1 ≡ suc (length ys) = omega arith in
    let one_less : suc (length ys) - 1 ≡ length ys = omega arith in
    ap (λ n. pointwise nat_eq (codes "/") (drop n (x ∷ (y ∷ ys)))) more ∙ sym (ap (λ n. pointwise nat_eq (codes "/") (drop n (y ∷ ys))) one_less)

ends-append : (front : List ℕ) (y : ℕ) (ys : List ℕ) → ends_with_slash (front ++ y ∷ ys) ≡ ends_with_slash (y ∷ ys)
ends-append [] y ys = refl
ends-append (x ∷ []) y ys = ends-behind x y ys
ends-append (x ∷ (z ∷ zs)) y ys = ends-behind x z (zs ++ y ∷ ys) ∙ ends-append (z ∷ zs) y ys

part-ends : (y : ℕ) (ys : List ℕ) → is_one_part (y ∷ ys) ≡ true → ends_with_slash (y ∷ ys) ≡ false
part-ends y [] h = let other = negated (is_slash y) (and_parts (not (is_slash y)) true h).0 in grind (arith, nat_tests)
part-ends y (z ∷ zs) h = ends-behind y z zs ∙ part-ends z zs (and_parts (not (is_slash y)) (is_one_part (z ∷ zs)) h).1

-- a path that ends with a slash is parts with a slash after each
pub record IsSlashed (path : List ℕ) (parts : List (List ℕ)) : Type 0 where
  pub whole : path ≡ slashed parts
  pub free : AllParts parts

no_last : (path : List ℕ) (parts : List (List ℕ)) (last : List ℕ) → IsCut path parts last → ends_with_slash path ≡ true → IsSlashed path parts
no_last path parts [] h e = record { whole = h.whole ∙ append-nil _; free = h.parts_free }
no_last path parts (y ∷ ys) h e = absurd (false≢true (sym (part-ends y ys h.last_free) ∙ sym (ends-append (slashed parts) y ys) ∙ sym (ap ends_with_slash h.whole) ∙ e))

pub slashed_of : (path : List ℕ) → ends_with_slash path ≡ true → (parts : List (List ℕ)) × IsSlashed path parts
slashed_of path e = let cut = cut_of path in (cut.0, no_last path cut.0 cut.1 cut.2 e)

file_name-behind : (path name : List ℕ) (parts : List (List ℕ)) → IsSlashed path parts → is_file_name name ≡ true → file_name (path ++ name) ≡ Some name
file_name-behind path name parts cut h = ap (λ p. file_name (p ++ name)) cut.whole ∙ ap (option_map (λ place. place.name)) (file_place-slashed parts name cut.free h)

begins_with_no_slash : (name : List ℕ) → is_file_name name ≡ true → begins_with_slash name ≡ false
begins_with_no_slash [] h = absurd (false≢true h)
begins_with_no_slash (x ∷ xs) h =
    let other = negated (is_slash x) (and_parts (not (is_slash x)) (is_one_part xs) (and_parts (is_one_part (x ∷ xs)) _ h).0).0 in
    let differs : nat_eq 47 x ≡ false = grind (arith, nat_tests) in
    rw differs refl

ends_with_its_slash : (path : List ℕ) → ends_with_slash (path ++ 47 ∷ []) ≡ true
ends_with_its_slash path = ends-append path 47 []

-- a file name that is joined to a path is the file name of the result
pub file_name-join : (path name : List ℕ) → is_file_name name ≡ true → file_name (join path name) ≡ Some name
file_name-join path name h =
    rw (begins_with_no_slash name h) (elim (length path == 0) as (λ b. file_name (if b then name else (if ends_with_slash path then path ++ name else path ++ codes "/" ++ name)) ≡ Some name) [
      | true ↦ file_name-behind [] name [] (record { whole = refl; free = tt }) h
      | false ↦ elim (cases_Bool (ends_with_slash path)) [
        | inl ends ↦ let cut = slashed_of path ends in rw ends (file_name-behind path name cut.0 cut.1 h)
        | inr open_end ↦ let cut = slashed_of (path ++ 47 ∷ []) (ends_with_its_slash path) in rw open_end (file_name-behind (path ++ 47 ∷ []) name cut.0 cut.1 h)
      ]
    ])
