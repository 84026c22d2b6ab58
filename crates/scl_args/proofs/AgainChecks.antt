use Rattle.std.proofs.Common.{◌≡◌, ℕ, ◌<◌, ◌≤◌, Bool, true, false, nat_lt, not, ◌&&◌, ◌||◌, inl, inr, List, [], ◌∷◌, ◌++◌, length, Some, refl, sym, ap, subst, nat_eq, ◌∙◌, arith}
use Rattle.std.proofs.lemmas.Bool.Decides.{nat_tests}
use Rattle.std.proofs.lemmas.List.{append-nil}
use Rattle.std.specs.List.{starts_with}
use Rattle.scl_values.specs.Each.{Has}
use Rattle.scl_values.specs.Row.{Row, joins, fits}
use Rattle.scl_values.specs.Tables.{owner}
use Rattle.scl_args.specs.Checks.{extends, no_flag, is_last, keeps_flags, joins_safely}
use Rattle.scl_tables.proofs.PrefixLemmas.{both, starts-append, starts-longer, starts-length, fits-starts, fits-append}
use Rattle.scl_args.proofs.OwnerLaws.{AtMost, Below, Wins, owner-wins}

pub implied : (a b : Bool) → (not a || b) ≡ true → a ≡ true → b ≡ true
implied true b h e = h
implied false b h e = absurd (cc)

no_both : (a b : Bool) → not (a && b) ≡ true → a ≡ true → b ≡ true → ⊥
no_both true true h p q = cc
no_both true false h p q = cc
no_both false b h p q = cc

-- a fitting flag that is at most as long, and is not the same, is shorter
pub below-of : {K : Type 0} (f word : List ℕ) (rows : List (Row K)) → starts_with nat_eq word f ≡ true → no_flag f rows ≡ true → AtMost (length f) word rows → Below (length f) word rows
below-of f word [] s n m = tt
below-of f word (x ∷ rows) s n m =
    let ab = both (not (extends x.flag f && extends f x.flag)) (no_flag f rows) n in (
      λ h.
          let most : length x.flag ≤ length f = m.0 h in
          let sx : starts_with nat_eq word x.flag ≡ true = fits-starts x word h in
          elim (nat_lt (length x.flag) (length f)) as (λ b. nat_lt (length x.flag) (length f) ≡ b → length x.flag < length f) [
            | true ↦ λ e. grind (arith, nat_tests)
            | false ↦ λ e.
                let least : length f ≤ length x.flag = grind (arith, nat_tests) in
                absurd (no_both (extends x.flag f) (extends f x.flag) ab.0 (starts-longer word f x.flag s sx least) (starts-longer word x.flag f sx s most))
          ] refl,
      below-of f word rows s ab.1 (m.1),
    )

-- no fitting flag is longer than the word
pub at_most-word : {K : Type 0} (f : List ℕ) (rows : List (Row K)) → AtMost (length f) f rows
at_most-word f [] = tt
at_most-word f (x ∷ rows) = (λ h. starts-length f x.flag (fits-starts x f h), at_most-word f rows)

pub at_most-last : {K : Type 0} (f word : List ℕ) (rows : List (Row K)) → starts_with nat_eq word f ≡ true → is_last f rows ≡ true → AtMost (length f) word rows
at_most-last f word [] s l = tt
at_most-last f word (x ∷ rows) s l =
    let ab = both (not (extends x.flag f) || not (nat_lt (length f) (length x.flag))) (is_last f rows) l in (
      λ h.
          let sx : starts_with nat_eq word x.flag ≡ true = fits-starts x word h in
          elim (nat_lt (length f) (length x.flag)) as (λ b. nat_lt (length f) (length x.flag) ≡ b → length x.flag ≤ length f) [
            | true ↦ λ e.
                let least : length f ≤ length x.flag = grind (arith, nat_tests) in
                let no : not (nat_lt (length f) (length x.flag)) ≡ true = implied (extends x.flag f) (not (nat_lt (length f) (length x.flag))) ab.0 (starts-longer word f x.flag s sx least) in
                absurd (let y : not true ≡ true = ap not (sym e) ∙ no in cc)
            | false ↦ λ e. grind (arith, nat_tests)
          ] refl,
      at_most-last f word rows s ab.1,
    )

record KeptFlag {K : Type 0} (word : List ℕ) (rows : List (Row K)) (row : Row K) : Type 0 where
  pub wins : Wins word rows row
  pub no_dash : extends (45 ∷ (45 ∷ [])) row.flag ≡ false

not_true : (b : Bool) → not b ≡ true → b ≡ false
not_true true h = absurd (cc)
not_true false h = refl

wins-kept : {K : Type 0} (changing : Row K → Bool) (rows : List (Row K)) (row : Row K) (word : List ℕ) → keeps_flags changing rows ≡ true → Has rows row → changing row ≡ true
    → starts_with nat_eq word row.flag ≡ true → AtMost (length row.flag) word rows → KeptFlag word rows row
wins-kept changing [] row word k h c s m = absurd h
wins-kept changing (x ∷ rows) row word k (inl e) c s m =
    let ab = both (not (changing x) || (no_flag x.flag rows && not (extends (45 ∷ (45 ∷ [])) x.flag))) (keeps_flags changing rows) k in
    let cx : changing x ≡ true = ap changing e ∙ c in
    let cd = both (no_flag x.flag rows) (not (extends (45 ∷ (45 ∷ [])) x.flag)) (implied (changing x) (no_flag x.flag rows && not (extends (45 ∷ (45 ∷ [])) x.flag)) ab.0 cx) in
    let nf : no_flag row.flag rows ≡ true = ap (λ r. no_flag r.flag rows) (sym e) ∙ cd.0 in
    record {
      wins = inl (e, below-of row.flag word rows s nf m.1);
      no_dash = ap (λ r. extends (45 ∷ (45 ∷ [])) r.flag) (sym e) ∙ not_true (extends (45 ∷ (45 ∷ [])) x.flag) cd.1;
    }
wins-kept changing (x ∷ rows) row word k (inr h) c s m =
    let ab = both (not (changing x) || (no_flag x.flag rows && not (extends (45 ∷ (45 ∷ [])) x.flag))) (keeps_flags changing rows) k in
    let more = wins-kept changing rows row word ab.1 h c s m.1 in
    record { wins = inr more.wins; no_dash = more.no_dash }

is_last-of : {K : Type 0} (joining : Row K → Bool) (all rows : List (Row K)) (row : Row K) → joins_safely joining all rows ≡ true → Has rows row → joining row ≡ true → is_last row.flag all ≡ true
is_last-of joining all [] row j h c = absurd h
is_last-of joining all (x ∷ rows) row j (inl e) c =
    let ab = both (not (joining x) || is_last x.flag all) (joins_safely joining all rows) j in
    let cx : joining x ≡ true = ap joining e ∙ c in
    ap (λ r. is_last r.flag all) (sym e) ∙ implied (joining x) (is_last x.flag all) ab.0 cx
is_last-of joining all (x ∷ rows) row j (inr h) c =
    let ab = both (not (joining x) || is_last x.flag all) (joins_safely joining all rows) j in
    is_last-of joining all rows row ab.1 h c

starts-itself : (f : List ℕ) → starts_with nat_eq f f ≡ true
starts-itself f = let e : starts_with nat_eq (f ++ []) f ≡ true = starts-append f [] in let P : List ℕ → Type 0 = λ w. starts_with nat_eq w f ≡ true in subst P (append-nil f) e

fits-flag : {K : Type 0} (row : Row K) → fits row row.flag ≡ true
fits-flag row = let e : fits row (row.flag ++ []) ≡ true = fits-append row [] in let P : List ℕ → Type 0 = λ w. fits row w ≡ true in subst P (append-nil row.flag) e

module _ {K : Type 0} (changing joining : Row K → Bool) (rows : List (Row K)) (keeps : keeps_flags changing rows ≡ true) (row : Row K) (has : Has rows row) (changes : changing row ≡ true) where
  kept-flag : (word : List ℕ) → starts_with nat_eq word row.flag ≡ true → AtMost (length row.flag) word rows → KeptFlag word rows row
  kept-flag word s m = wins-kept changing rows row word keeps has changes s m

  -- the flag of a row that may be printed differently is its own owner, and the mark does not begin with it
  pub owner-flag : owner rows row.flag ≡ Some row
  owner-flag = owner-wins row.flag rows row (fits-flag row) (at_most-word row.flag rows) (kept-flag row.flag (starts-itself row.flag) (at_most-word row.flag rows)).wins

  pub flag-no_dash : extends (45 ∷ (45 ∷ [])) row.flag ≡ false
  flag-no_dash = (kept-flag row.flag (starts-itself row.flag) (at_most-word row.flag rows)).no_dash

  -- an either flag that is printed joined, with a rest that the row accepts, is owned by the row
  pub owner-joined : joins_safely joining rows rows ≡ true → joining row ≡ true → (rest : List ℕ) → joins row.shape rest ≡ true → owner rows (row.flag ++ rest) ≡ Some row
  owner-joined safe j rest e =
      let s = starts-append row.flag rest in
      let most = at_most-last row.flag (row.flag ++ rest) rows s (is_last-of joining rows rows row safe has j) in
      owner-wins (row.flag ++ rest) rows row (fits-append row rest ∙ e) most (kept-flag (row.flag ++ rest) s most).wins
