-- What stays and what changes when a file name gets an extension.
use Rattle.std.proofs.Common.{if◌then◌else◌, ◌≡◌, ℕ, zero, suc, ◌+◌, ◌-◌, ◌<◌, ◌≤◌, ◌==◌, ◌&&◌, ◌⊎◌, not, true, false, inl, inr, length, List, [], ◌∷◌, ◌++◌, drop, take, get_or, Option, None, Some, refl, sym, ap, subst, ◌∙◌, arith}
use Rattle.std.proofs.Math.Bool.{and-false}
use Rattle.std.proofs.Math.Seq.{take-append_seam, drop-append_seam}
use Rattle.std.specs.Prelude.{IfSome, IsTrue}
use Rattle.std.proofs.lemmas.Bool.Decides.{nat_tests}
use Rattle.std.proofs.lemmas.List.{get_or-append_right}
use Rattle.std.proofs.lemmas.List.Sums.{suffix_len_is}
use Rattle.std.specs.Str.{bytes_eq}
use Rattle.std.proofs.lemmas.Bool.{false≢true, cases_Bool, and_parts}
use Rattle.std.proofs.lemmas.List.{append_assoc, append-nil, length-append}
use Rattle.std.specs.Option.{option_map, option_and_then}
use Rattle.std.specs.List.{slice_split, last_or, onto_first, list_all, before_last, after_last, suffix_len}
use Rattle.scl_files.specs.Paths.{is_slash, is_dot, is_one_part, is_file_name, is_name, is_plain_extension, Place, placed, places, places_after, unless_parent, file_place, file_name, stem_of_name, extension_of_name, extended_name, extended_at, extension}
use Rattle.scl_files.proofs.PathLaws.{AllParts, slashed, negated, file_place-slashed}

onto_first-parts : (x : ℕ) (parts : List (List ℕ)) → AllParts parts → is_slash x ≡ false → AllParts (onto_first x parts)
onto_first-parts x [] a other = (rw other refl, tt)
onto_first-parts x (p ∷ ps) a other = (rw other a.0, a.1)

-- what is between slashes has no slash
parts_of : (path : List ℕ) → AllParts (slice_split is_slash path)
parts_of [] = (refl, tt)
parts_of (x ∷ xs) = elim (cases_Bool (is_slash x)) [
  | inl slash ↦ rw slash (refl, parts_of xs)
  | inr other ↦ rw other (onto_first-parts x (slice_split is_slash xs) (parts_of xs) other)
]

-- a name at its place among parts
record StandsAt (before : List ℕ) (parts : List (List ℕ)) (place : Place) (front rest : List (List ℕ)) : Type 0 where
  whole : parts ≡ front ++ place.name ∷ rest
  ahead : place.before ≡ before ++ slashed front
  named : is_name place.name ≡ true

Stands : List ℕ → List (List ℕ) → Place → Type 0
Stands before parts place = (front : List (List ℕ)) × (rest : List (List ℕ)) × StandsAt before parts place front rest

behind : (before p : List ℕ) (ps : List (List ℕ)) (place : Place) → Stands (before ++ p ++ 47 ∷ []) ps place → Stands before (p ∷ ps) place
unfolding Stands
behind before p ps place s = (p ∷ s.0, s.1, record { whole = ap (λ qs. p ∷ qs) s.2.whole; ahead = s.2.ahead ∙ simp append_assoc; named = s.2.named })

last_stands : (before : List ℕ) (parts : List (List ℕ)) (found : Option Place) (place : Place) → last_or found (places_after before parts) ≡ Some place → (found ≡ Some place) ⊎ Stands before parts place
unfolding Stands
last_stands before [] found place h = inl h
last_stands before (p ∷ ps) found place h = elim (cases_Bool (is_name p)) [
  | inl named ↦
      let later : last_or (Some (placed before p)) (places_after (before ++ p ++ 47 ∷ []) ps) ≡ Some place = rw named at h in
      elim (last_stands (before ++ p ++ 47 ∷ []) ps (Some (placed before p)) place later) [
        | inl e ↦
            let same : placed before p ≡ place = cc in
            inr (
              [],
              ps,
              record {
                whole = ap (λ q. q.name ∷ ps) same;
                ahead = sym (ap (λ q. q.before) same) ∙ sym (append-nil before);
                named = sym (ap (λ q. is_name q.name) same) ∙ named;
              },
            )
        | inr stands ↦ inr (behind before p ps place stands)
      ]
  | inr other ↦
      let later : last_or found (places_after (before ++ p ++ 47 ∷ []) ps) ≡ Some place = rw other at h in
      elim (last_stands (before ++ p ++ 47 ∷ []) ps found place later) [
        | inl e ↦ inl e
        | inr stands ↦ inr (behind before p ps place stands)
      ]
]

unless_parent-Some : (found : Option Place) (place : Place) → unless_parent found ≡ Some place → found ≡ Some place
unless_parent-Some None place h = cc
unless_parent-Some (Some p) place h =
    elim (bytes_eq p.name (46 ∷ 46 ∷ [])) as (λ b. (if b then None else Some p) ≡ Some place → Some p ≡ Some place) [ true ↦ λ e. cc | false ↦ λ e. e ] h

front_parts : (front : List (List ℕ)) (part : List ℕ) (rest : List (List ℕ)) → AllParts (front ++ part ∷ rest) → AllParts front × (is_one_part part ≡ true)
front_parts [] part rest a = (tt, a.0)
front_parts (p ∷ ps) part rest a = let later = front_parts ps part rest a.1 in ((a.0, later.0), later.1)

-- the place of a file name: parts with a slash after each, and a name
record IsFilePlace (place : Place) (front : List (List ℕ)) : Type 0 where
  parts : AllParts front
  ahead : place.before ≡ slashed front
  one : is_one_part place.name ≡ true
  named : is_name place.name ≡ true

file_place-stands : (path : List ℕ) (place : Place) → file_place path ≡ Some place → (front : List (List ℕ)) × IsFilePlace place front
unfolding places Stands
file_place-stands path place h = elim (last_stands [] (slice_split is_slash path) None place (unless_parent-Some (last_or None (places path)) place h)) [
  | inl e ↦ absurd (cc)
  | inr stands ↦
      let parts = front_parts stands.0 place.name stands.1 (subst AllParts stands.2.whole (parts_of path)) in
      (stands.0, record { parts = parts.0; ahead = stands.2.ahead; one = parts.1; named = stands.2.named })
]

one_part-take : (part : List ℕ) (n : ℕ) → is_one_part part ≡ true → is_one_part (take n part) ≡ true
one_part-take part zero h = refl
one_part-take [] (suc n) h = refl
one_part-take (x ∷ xs) (suc n) h = let parts = and_parts (not (is_slash x)) (is_one_part xs) h in rw (parts.0) (one_part-take xs n parts.1)

one_part-append : (a b : List ℕ) → is_one_part a ≡ true → is_one_part b ≡ true → is_one_part (a ++ b) ≡ true
one_part-append [] b h k = k
one_part-append (x ∷ xs) b h k = let parts = and_parts (not (is_slash x)) (is_one_part xs) h in rw (parts.0) (one_part-append xs b parts.1 k)

stem-one : (name : List ℕ) → is_one_part name ≡ true → is_one_part (stem_of_name name) ≡ true
stem-one name h = elim (length (before_last is_dot name) == 0) as (λ b. is_one_part (if b then name else before_last is_dot name) ≡ true) [
  | true ↦ h
  | false ↦ one_part-take name _ h
]

filled : (name : List ℕ) → is_name name ≡ true → (length name == 0) ≡ false
filled [] h = absurd (false≢true h)
filled (x ∷ xs) h = grind (arith, nat_tests)

stem-filled : (name : List ℕ) → is_name name ≡ true → (length (stem_of_name name) == 0) ≡ false
stem-filled name h = elim (cases_Bool (length (before_last is_dot name) == 0)) [
  | inl e ↦ rw e (filled name h)
  | inr e ↦ rw e e
]

long_name : (stem extension : List ℕ) → (length stem == 0) ≡ false → (length extension == 0) ≡ false
    → (is_name (stem ++ 46 ∷ [] ++ extension) ≡ true) × (not (bytes_eq (stem ++ 46 ∷ [] ++ extension) (46 ∷ 46 ∷ [])) ≡ true)
long_name [] e h k = absurd (false≢true (sym h))
long_name (x ∷ xs) [] h k = absurd (false≢true (sym k))
long_name (x ∷ []) (y ∷ ys) h k = (refl, rw and-false refl)
long_name (x ∷ (z ∷ [])) (y ∷ ys) h k = (refl, rw (and-false, and-false) refl)
long_name (x ∷ (z ∷ (w ∷ ws))) (y ∷ ys) h k = (refl, rw (and-false, and-false) refl)

pub is_file_name-extended : (stem extension : List ℕ) → is_one_part stem ≡ true → (length stem == 0) ≡ false → is_one_part extension ≡ true → (length extension == 0) ≡ false
    → is_file_name (stem ++ 46 ∷ [] ++ extension) ≡ true
is_file_name-extended stem e one full e_one e_full =
    let long = long_name stem e full e_full in
    rw (one_part-append (stem ++ 46 ∷ []) e (one_part-append stem (46 ∷ []) one refl) e_one, long.0, long.1) refl

passes_at : (bytes : List ℕ) (i : ℕ) → list_all (λ byte. not (is_dot byte)) bytes ≡ true → i < length bytes → not (is_dot (get_or bytes i 0)) ≡ true
passes_at [] i h l = absurd (omega arith)
passes_at (x ∷ xs) zero h l = (and_parts (not (is_dot x)) (list_all (λ byte. not (is_dot byte)) xs) h).0
passes_at (x ∷ xs) (suc i) h l = passes_at xs i (and_parts (not (is_dot x)) (list_all (λ byte. not (is_dot byte)) xs) h).1 (omega arith)

behind_dot : (stem e : List ℕ) (k : ℕ) → list_all (λ byte. not (is_dot byte)) e ≡ true → length stem + 1 ≤ k → k < length (stem ++ 46 ∷ e) → not (is_dot (get_or (stem ++ 46 ∷ e) k 0)) ≡ true
behind_dot stem e k h l m =
    let shift : k - length stem ≡ suc (k - length stem - 1) = omega arith in
    let short : k - length stem - 1 < length e = omega (arith, length-append stem (46 ∷ e)) in
    rw (get_or-append_right stem (46 ∷ e) (length stem) k 0 refl (omega arith), shift) (passes_at e (k - length stem - 1) h short)

at_dot : (stem e : List ℕ) → not (is_dot (get_or (stem ++ 46 ∷ e) (length stem + 1 - 1) 0)) ≡ false
at_dot stem e =
    let here : length stem + 1 - 1 ≡ length stem = omega arith in
    let first : length stem - length stem ≡ 0 = omega arith in
    rw (here, get_or-append_right stem (46 ∷ e) (length stem) (length stem) 0 refl (omega arith), first) refl

-- the last dot of the name is the one before a plain extension
last_dot : (stem e : List ℕ) → list_all (λ byte. not (is_dot byte)) e ≡ true → suffix_len (λ byte. not (is_dot byte)) (stem ++ 46 ∷ [] ++ e) ≡ length e
last_dot stem e h =
    let total : length (stem ++ 46 ∷ e) ≡ length stem + suc (length e) = length-append stem (46 ∷ e) in
    rw append_assoc (suffix_len_is (λ byte. not (is_dot byte)) (stem ++ 46 ∷ e) (length stem + 1) 0 (omega arith) (λ k l m. behind_dot stem e k h l m) (λ l. at_dot stem e) ∙ (omega arith))

total_length : (stem e : List ℕ) → length (stem ++ 46 ∷ [] ++ e) ≡ length stem + 1 + length e
total_length stem e = length-append (stem ++ 46 ∷ []) e ∙ ap (λ n. n + length e) (length-append stem (46 ∷ []))

before_last-extended : (stem e : List ℕ) → list_all (λ byte. not (is_dot byte)) e ≡ true → before_last is_dot (stem ++ 46 ∷ [] ++ e) ≡ stem
before_last-extended stem e h =
    let total = total_length stem e in
    let behind_it = last_dot stem e h in
    let count : length (stem ++ 46 ∷ [] ++ e) - suffix_len (λ byte. not (is_dot byte)) (stem ++ 46 ∷ [] ++ e) - 1 ≡ length stem = omega arith in
    ap (λ n. take n (stem ++ 46 ∷ [] ++ e)) count ∙ rw append_assoc (take-append_seam stem (46 ∷ e))

after_last-extended : (stem e : List ℕ) → list_all (λ byte. not (is_dot byte)) e ≡ true → after_last is_dot (stem ++ 46 ∷ [] ++ e) ≡ e
after_last-extended stem e h =
    let total = total_length stem e in
    let behind_it = last_dot stem e h in
    let ahead = length-append stem (46 ∷ []) in
    let count : length (stem ++ 46 ∷ [] ++ e) - suffix_len (λ byte. not (is_dot byte)) (stem ++ 46 ∷ [] ++ e) ≡ length (stem ++ 46 ∷ []) = omega arith in
    ap (λ n. drop n (stem ++ 46 ∷ [] ++ e)) count ∙ drop-append_seam (stem ++ 46 ∷ []) e

extension_of_name-extended : (stem e : List ℕ) → list_all (λ byte. not (is_dot byte)) e ≡ true → (length stem == 0) ≡ false → extension_of_name (stem ++ 46 ∷ [] ++ e) ≡ Some e
extension_of_name-extended stem e h full =
    ap (λ s. if length s == 0 then None else Some (after_last is_dot (stem ++ 46 ∷ [] ++ e))) (before_last-extended stem e h) ∙ rw full (ap Some (after_last-extended stem e h))

stem_of_name-extended : (stem e : List ℕ) → list_all (λ byte. not (is_dot byte)) e ≡ true → (length stem == 0) ≡ false → stem_of_name (stem ++ 46 ∷ [] ++ e) ≡ stem
stem_of_name-extended stem e h full =
    ap (λ s. if length s == 0 then stem ++ 46 ∷ [] ++ e else s) (before_last-extended stem e h) ∙ rw full refl

-- what a plain extension is
record IsPlain (e : List ℕ) : Type 0 where
  filled : (length e == 0) ≡ false
  one : is_one_part e ≡ true
  dotless : list_all (λ byte. not (is_dot byte)) e ≡ true

plain : (e : List ℕ) → is_plain_extension e ≡ true → IsPlain e
plain e h =
    let some = and_parts (not (length e == 0)) (is_one_part e && list_all (λ byte. not (is_dot byte)) e) h in
    let rest = and_parts (is_one_part e) (list_all (λ byte. not (is_dot byte)) e) some.1 in
    record { filled = negated (length e == 0) some.0; one = rest.0; dotless = rest.1 }

new_file_name : (path e : List ℕ) (place : Place) → file_place path ≡ Some place → is_plain_extension e ≡ true
    → file_name (extended_at path (Some place) e) ≡ Some (extended_name place.name e)
new_file_name path e place found h =
    let stands = file_place-stands path place found in
    let is_plain = plain e h in
    let named = is_file_name-extended (stem_of_name place.name) e (stem-one place.name stands.1.one) (stem-filled place.name stands.1.named) is_plain.one is_plain.filled in
    let whole : extended_at path (Some place) e ≡ slashed stands.0 ++ extended_name place.name e = simp append_assoc (ap (λ b. b ++ (stem_of_name place.name ++ (46 ∷ [] ++ e))) stands.1.ahead) in
    ap file_name whole ∙ ap (option_map (λ p. p.name)) (file_place-slashed stands.0 (extended_name place.name e) stands.1.parts named)

-- the new file name is the stem with the extension
pub file_name-with_extension : (path e : List ℕ) (found : Option Place) → file_place path ≡ found
    → IfSome (option_map (λ place. place.name) found) (λ name. IsTrue (is_plain_extension e) → file_name (extended_at path found e) ≡ Some (extended_name name e))
file_name-with_extension path e None found = tt
file_name-with_extension path e (Some place) found = λ h. new_file_name path e place found h

-- the new extension is the one given
pub extension-with_extension : (path e : List ℕ) (found : Option Place) → file_place path ≡ found
    → IfSome (option_map (λ place. place.name) found) (λ _. IsTrue (is_plain_extension e) → extension (extended_at path found e) ≡ Some e)
extension-with_extension path e None found = tt
extension-with_extension path e (Some place) found = λ h.
    let stands = file_place-stands path place found in
    ap (option_and_then extension_of_name) (new_file_name path e place found h)
    ∙ extension_of_name-extended (stem_of_name place.name) e (plain e h).dotless (stem-filled place.name stands.1.named)

-- the stem stays
pub stem-with_extension : (path e : List ℕ) (found : Option Place) → file_place path ≡ found
    → IfSome (option_map (λ place. place.name) found) (λ name. IsTrue (is_plain_extension e) → stem_of_name (extended_name name e) ≡ stem_of_name name)
stem-with_extension path e None found = tt
stem-with_extension path e (Some place) found = λ h.
    stem_of_name-extended (stem_of_name place.name) e (plain e h).dotless (stem-filled place.name (file_place-stands path place found).1.named)
