-- The laws of bases.
use Rattle.std.proofs.Common.{◌≡◌, ◌≢◌, ℕ, suc, ◌+◌, ◌<◌, ◌≤◌, nat_lt, nat_eq, ◌==◌, ◌&&◌, not, Bool, true, false, cond, List, [], ◌∷◌, ◌++◌, length, drop, get_or, Option, None, Some, refl, sym, ap, subst, ◌∙◌, arith, ◌⊎◌, inl, inr}
use Rattle.std.proofs.lemmas.Bool.{and_parts, cases_Bool, false≢true, ltb-true, ltb-false, not-true, ne_eqb}
use Rattle.std.proofs.lemmas.Bool.Decides.{Decides-eqb}
use Rattle.std.proofs.lemmas.List.{drop_at, length-append}
use Rattle.std.proofs.lemmas.Slice.Eq.{starts_is}
use Rattle.std.specs.List.{starts_with}
use Rattle.scl_values.specs.Each.{Each}
use Rattle.scl_base_dirs.specs.declared.spelling.Spelling.{Spelling}
use Rattle.scl_base_dirs.specs.Bases.{Place, placed, fits, ends_component, longer, base_of}
use Rattle.scl_base_dirs.specs.Cuts.{has_none}
use Rattle.scl_base_dirs.specs.Told.{told_text, told_below}
use Rattle.scl_base_dirs.specs.Laws.{BasesAreLongestFits, PathsWithoutBaseStand, OnlyTheBaseDiffers, OneBaseIsLikeAnother}
use Rattle.scl_base_dirs.proofs.BaseLemmas.{fit_from, fit_yes, fit_no}

abbrev IsNoLonger : Spelling → List ℕ → ℕ → List ℕ → Type 0
IsNoLonger spelling path limit dir = fits spelling dir path ≡ true → length dir ≤ limit

each_map : {P Q : List ℕ → Type 0} → ((x : List ℕ) → P x → Q x) → (xs : List (List ℕ)) → Each P xs → Each Q xs
each_map f [] h = tt
each_map f (x ∷ xs) h = (f x h.0, each_map f xs h.1)

longer_some : (place : Place) (other : Option Place) → longer (Some place) other ≡ None → ⊥
longer_some place None h = cc
longer_some place (Some other) h = elim (nat_lt (length place.dir) (length other.dir)) as (λ b. cond b (Some other) (Some place) ≡ None → ⊥) [ true ↦ (λ e. cc) | false ↦ (λ e. cc) ] h

-- no directory fits
none_fits_by : (spelling : Spelling) (path : List ℕ) (number : ℕ) (dir : List ℕ) (dirs : List (List ℕ)) (limit : ℕ) → fit_from spelling path number (dir ∷ dirs) ≡ None
    → (fits spelling dir path ≡ true) ⊎ (fits spelling dir path ≡ false) → (fit_from spelling path (number + 1) dirs ≡ None → Each (IsNoLonger spelling path limit) dirs) → Each (IsNoLonger spelling path limit) (dir ∷ dirs)
none_fits_by spelling path number dir dirs limit h (inl passes) rest = absurd (longer_some (placed number dir) (fit_from spelling path (number + 1) dirs) (sym (fit_yes spelling path number dir dirs passes) ∙ h))
none_fits_by spelling path number dir dirs limit h (inr fails) rest = ((λ passes. absurd (false≢true (sym fails ∙ passes))), rest (sym (fit_no spelling path number dir dirs fails) ∙ h))

none_fits : (spelling : Spelling) (path : List ℕ) (number : ℕ) (dirs : List (List ℕ)) (limit : ℕ) → fit_from spelling path number dirs ≡ None → Each (IsNoLonger spelling path limit) dirs
none_fits spelling path number [] limit h = tt
none_fits spelling path number (dir ∷ dirs) limit h = none_fits_by spelling path number dir dirs limit h (cases_Bool (fits spelling dir path)) (none_fits spelling path (number + 1) dirs limit)

-- the longest fit among directories that are numbered from a number on
record IsFit (spelling : Spelling) (path : List ℕ) (number : ℕ) (dirs : List (List ℕ)) (place : Place) : Type 0 where
  index : ℕ
  counted : place.number ≡ number + index
  within : index < length dirs
  there : get_or dirs index [] ≡ place.dir
  fitting : fits spelling place.dir path ≡ true
  longest_one : Each (IsNoLonger spelling path (length place.dir)) dirs

first_fits : (spelling : Spelling) (path : List ℕ) (number : ℕ) (dir : List ℕ) (dirs : List (List ℕ)) (place : Place) → placed number dir ≡ place → fits spelling dir path ≡ true
    → Each (IsNoLonger spelling path (length dir)) dirs → IsFit spelling path number (dir ∷ dirs) place
first_fits spelling path number dir dirs place e passes others = let P : Place → Type 0 = IsFit spelling path number (dir ∷ dirs) in subst P e (record {
  index = 0;
  counted = omega arith;
  within = omega arith;
  there = refl;
  fitting = passes;
  longest_one = ((λ _. omega arith), others);
})

later_fits : (spelling : Spelling) (path : List ℕ) (number : ℕ) (dir : List ℕ) (dirs : List (List ℕ)) (place : Place) → IsFit spelling path (number + 1) dirs place
    → IsNoLonger spelling path (length place.dir) dir → IsFit spelling path number (dir ∷ dirs) place
later_fits spelling path number dir dirs place fit first = record {
  index = suc fit.index;
  counted = omega (arith, fit.counted);
  within = omega (arith, fit.within);
  there = fit.there;
  fitting = fit.fitting;
  longest_one = (first, fit.longest_one);
}

abbrev Fit : Spelling → List ℕ → ℕ → List (List ℕ) → Type 0
Fit spelling path number dirs = (place : Place) → fit_from spelling path number dirs ≡ Some place → IsFit spelling path number dirs place

same_some : (a b : Place) → Some a ≡ Some b → a ≡ b
same_some a b h = cc

two_fit : (spelling : Spelling) (path : List ℕ) (number : ℕ) (dir : List ℕ) (dirs : List (List ℕ)) (other place : Place) → fits spelling dir path ≡ true
    → IsFit spelling path (number + 1) dirs other → (b : Bool) → nat_lt (length dir) (length other.dir) ≡ b → cond b (Some other) (Some (placed number dir)) ≡ Some place → IsFit spelling path number (dir ∷ dirs) place
two_fit spelling path number dir dirs other place passes fit true test e =
    let P : Place → Type 0 = IsFit spelling path number (dir ∷ dirs) in
    let less : length dir < length other.dir = ltb-true (length dir) (length other.dir) test in
    subst P (same_some other place e) (later_fits spelling path number dir dirs other fit (λ _. omega arith))
two_fit spelling path number dir dirs other place passes fit false test e =
    let most : length other.dir ≤ length dir = ltb-false (length dir) (length other.dir) test in
    first_fits spelling path number dir dirs place (same_some (placed number dir) place e) passes
    (each_map {P = IsNoLonger spelling path (length other.dir)} {Q = IsNoLonger spelling path (length dir)} (λ (d : List ℕ) (h : IsNoLonger spelling path (length other.dir) d) (k : fits spelling d path ≡ true). let l : length d ≤ length other.dir = h k in omega arith) dirs fit.longest_one)

one_fits : (spelling : Spelling) (path : List ℕ) (number : ℕ) (dir : List ℕ) (dirs : List (List ℕ)) (place : Place) → fits spelling dir path ≡ true
    → (rest : Option Place) → fit_from spelling path (number + 1) dirs ≡ rest → Fit spelling path (number + 1) dirs → longer (Some (placed number dir)) rest ≡ Some place → IsFit spelling path number (dir ∷ dirs) place
one_fits spelling path number dir dirs place passes None is others e = first_fits spelling path number dir dirs place (same_some (placed number dir) place e) passes (none_fits spelling path (number + 1) dirs (length dir) is)
one_fits spelling path number dir dirs place passes (Some other) is others e = two_fit spelling path number dir dirs other place passes (others other is) (nat_lt (length dir) (length other.dir)) refl e

fit_cases : (spelling : Spelling) (path : List ℕ) (number : ℕ) (dir : List ℕ) (dirs : List (List ℕ)) → (fits spelling dir path ≡ true) ⊎ (fits spelling dir path ≡ false) → Fit spelling path (number + 1) dirs → Fit spelling path number (dir ∷ dirs)
fit_cases spelling path number dir dirs (inl passes) others = λ place e. one_fits spelling path number dir dirs place passes (fit_from spelling path (number + 1) dirs) refl others (sym (fit_yes spelling path number dir dirs passes) ∙ e)
fit_cases spelling path number dir dirs (inr fails) others = λ place e. later_fits spelling path number dir dirs place (others place (sym (fit_no spelling path number dir dirs fails) ∙ e)) (λ passes. absurd (false≢true (sym fails ∙ passes)))

fit_is : (spelling : Spelling) (path : List ℕ) (number : ℕ) (dirs : List (List ℕ)) → Fit spelling path number dirs
fit_is spelling path number [] = λ place e. absurd (cc)
fit_is spelling path number (dir ∷ dirs) = fit_cases spelling path number dir dirs (cases_Bool (fits spelling dir path)) (fit_is spelling path (number + 1) dirs)

pub bases_are_longest_fits : BasesAreLongestFits
bases_are_longest_fits = λ spelling dirs path place e.
    let fit = fit_is spelling path 0 dirs place e in
    let same : fit.index ≡ place.number = omega (arith, fit.counted) in
    record {
      numbered = subst (λ (i : ℕ). get_or dirs i [] ≡ place.dir) same fit.there;
      within = omega (arith, fit.within);
      fitting = fit.fitting;
      longest = fit.longest_one;
    }

-- a path that fits begins with the directory
pub fits_is : (spelling : Spelling) (dir path : List ℕ) → fits spelling dir path ≡ true → path ≡ dir ++ drop (length dir) path
fits_is spelling dir path h =
    let both = and_parts (not (length dir == 0) && starts_with nat_eq path dir) (ends_component spelling (drop (length dir) path)) h in
    let starts = and_parts (not (length dir == 0)) (starts_with nat_eq path dir) both.0 in
    (starts_is Decides-eqb path dir (starts_with nat_eq path dir) refl).0 starts.1

-- the base of a path is no longer than the path
pub base_within : (spelling : Spelling) (dirs : List (List ℕ)) (path : List ℕ) (place : Place) → base_of spelling dirs path ≡ Some place → length place.dir ≤ length path
base_within spelling dirs path place e =
    let whole = ap length (fits_is spelling place.dir path (bases_are_longest_fits spelling dirs path place e).fitting) in
    omega (arith, whole, length-append place.dir (drop (length place.dir) path))

-- ---- what is unchanged, and what is alike

told_text_same : (text : List ℕ) → has_none 0 text ≡ true → told_text text ≡ text
told_text_same [] h = refl
told_text_same (byte ∷ text) h =
    let both = and_parts (not (byte == 0)) (has_none 0 text) h in
    rw (not-true (byte == 0) both.0) (ap (λ (t : List ℕ). byte ∷ t) (told_text_same text both.1))

pub paths_without_base_stand : PathsWithoutBaseStand
paths_without_base_stand = λ spelling dirs path none plain. ap (λ (o : Option Place). told_below o path) none ∙ told_text_same path plain

pub only_the_base_differs : OnlyTheBaseDiffers
only_the_base_differs = λ spelling dirs others number dir other rest e f.
    rw (e, f, drop_at dir rest (length dir) refl, drop_at other rest (length other) refl) refl

not_empty : (dir : List ℕ) → dir ≢ [] → (length dir == 0) ≡ false
not_empty [] h = absurd (h refl)
not_empty (x ∷ dir) h = ne_eqb (suc (length dir)) 0 (λ e. omega arith)

fits_below : (spelling : Spelling) (dir rest : List ℕ) → dir ≢ [] → ends_component spelling rest ≡ true → fits spelling dir (dir ++ rest) ≡ true
fits_below spelling dir rest some ends =
    let begins : starts_with nat_eq (dir ++ rest) dir ≡ true = (starts_is Decides-eqb (dir ++ rest) dir (starts_with nat_eq (dir ++ rest) dir) refl).1 rest refl in
    rw (not_empty dir some, begins, drop_at dir rest (length dir) refl) ends

base_below : (spelling : Spelling) (dir rest : List ℕ) → dir ≢ [] → ends_component spelling rest ≡ true → base_of spelling (dir ∷ []) (dir ++ rest) ≡ Some (placed 0 dir)
base_below spelling dir rest some ends = fit_yes spelling (dir ++ rest) 0 dir [] (fits_below spelling dir rest some ends)

pub one_base_is_like_another : OneBaseIsLikeAnother
one_base_is_like_another = λ spelling dir other rest some some' ends.
    only_the_base_differs spelling (dir ∷ []) (other ∷ []) 0 dir other rest (base_below spelling dir rest some ends) (base_below spelling other rest some' ends)

pub ruleset base_laws = (bases_are_longest_fits, paths_without_base_stand, only_the_base_differs, one_base_is_like_another)
