-- The rows of a table that fit a word.
use Rattle.std.proofs.Common.{◌≡◌, ℕ, ◌<◌, true, false, inl, inr, List, [], ◌∷◌, ◌++◌, length, take, None, Some, MatchOption, refl, sym, ap, subst, ◌∙◌, arith}
use Rattle.std.proofs.lemmas.Cmp.{nat_list_cmp_total}
use Rattle.std.specs.declared.cmp.Ordering.TheVariants.{Less}
use Rattle.scl_values.specs.Row.{Row, fits}
use Rattle.scl_values.specs.Tables.{is_table, comes_before, has_ascii_delimiter, owner}
use Rattle.scl_values.specs.Each.{Each, Has}
use Rattle.scl_args.specs.Laws.{IsLongestFit}
use Rattle.scl_tables.proofs.OrderLemmas.{cmp, is_less, fits_prefix, prefix_not_after, prefix_before}
use Rattle.scl_tables.proofs.PrefixLemmas.{both, starts-length, fits-starts}
use Rattle.scl_args.proofs.OwnerLaws.{owner-longest, owner-wins, AtMost, Below, Wins}

-- of two fitting rows the one that is less by bytes is shorter
first_shorter : {K : Type 0} (row other : Row K) (word : List ℕ) → fits row word ≡ true → fits other word ≡ true → cmp row.flag other.flag ≡ Less → length row.flag < length other.flag
first_shorter row other word f g l =
    let n : ℕ = length word in
    let p = fits_prefix row word n f (starts-length word row.flag (fits-starts row word f)) in
    let q = fits_prefix other word n g (starts-length word other.flag (fits-starts other word g)) in
    (prefix_before row.flag other.flag (take n word) p l (prefix_not_after other.flag (take n word) q)).1

all_after : {K : Type 0} (flag : List ℕ) (rows : List (Row K)) → comes_before flag rows ≡ true → is_table rows ≡ true → Each (λ row. cmp flag row.flag ≡ Less) rows
all_after flag [] c t = tt
all_after {K = K} flag (row ∷ rows) c t =
    let ab = both _ (is_table rows) t in
    let a = both (has_ascii_delimiter row.shape) (comes_before row.flag rows) ab.0 in
    (is_less _ c, weaker rows (all_after row.flag rows a.1 ab.1))
  where
    weaker : (xs : List (Row K)) → Each (λ x. cmp row.flag x.flag ≡ Less) xs → Each (λ x. cmp flag x.flag ≡ Less) xs
    weaker [] h = tt
    weaker (x ∷ xs) h = (nat_list_cmp_total.trans flag row.flag x.flag (is_less _ c) h.0, weaker xs h.1)

each-at : {A : Type 0} (P : A → Type 0) (xs : List A) (x : A) → Each P xs → Has xs x → P x
each-at P [] x h e = absurd e
each-at P (y ∷ ys) x h (inl e) = subst P e h.0
each-at P (y ∷ ys) x h (inr e) = each-at P ys x h.1 e

first_before : {K : Type 0} (row : Row K) (rows : List (Row K)) (other : Row K) → is_table (row ∷ rows) ≡ true → Has rows other → cmp row.flag other.flag ≡ Less
first_before row rows other t e =
    let ab = both _ (is_table rows) t in
    let a = both (has_ascii_delimiter row.shape) (comes_before row.flag rows) ab.0 in
    each-at (λ x. cmp row.flag x.flag ≡ Less) rows other (all_after row.flag rows a.1 ab.1) e

rest_is_table : {K : Type 0} (row : Row K) (rows : List (Row K)) → is_table (row ∷ rows) ≡ true → is_table rows ≡ true
rest_is_table row rows t = (both _ (is_table rows) t).1

pub fits_are_unique : {K : Type 0} (rows : List (Row K)) → is_table rows ≡ true → (word : List ℕ) (row other : Row K) → Has rows row → Has rows other
    → fits row word ≡ true → fits other word ≡ true → length row.flag ≡ length other.flag → row ≡ other
fits_are_unique [] t word row other h k f g l = absurd h
fits_are_unique (x ∷ rows) t word row other (inl h) (inl k) f g l = sym h ∙ k
fits_are_unique {K = K} (x ∷ rows) t word row other (inl h) (inr k) f g l =
    let P : Row K → Type 0 = λ r. cmp r.flag other.flag ≡ Less in
    let less = first_shorter row other word f g (subst P h (first_before x rows other t k)) in
    absurd (omega (arith, less, l))
fits_are_unique {K = K} (x ∷ rows) t word row other (inr h) (inl k) f g l =
    let P : Row K → Type 0 = λ r. cmp r.flag row.flag ≡ Less in
    let less = first_shorter other row word g f (subst P k (first_before x rows row t h)) in
    absurd (omega (arith, less, l))
fits_are_unique (x ∷ rows) t word row other (inr h) (inr k) f g l = fits_are_unique rows (rest_is_table x rows t) word row other h k f g l

pub longest_fit_owns : {K : Type 0} (rows : List (Row K)) → is_table rows ≡ true → (word : List ℕ) (row : Row K) → IsLongestFit rows word row → owner rows word ≡ Some row
longest_fit_owns {K = K} rows t word row h =
    elim (owner rows word) as (λ o. MatchOption o ((row : Row K) → Has rows row → fits row word ≡ false) (IsLongestFit rows word) → o ≡ Some row) [
      | None ↦ λ none. absurd (let no : true ≡ false = sym h.fits_word ∙ none row h.is_row in cc)
      | Some other ↦ λ is.
          let least = is.none_longer row h.is_row h.fits_word in
          let most = h.none_longer other is.is_row is.fits_word in
          ap Some (fits_are_unique rows t word other row is.is_row h.is_row is.fits_word h.fits_word (omega (arith, least, most)))
    ] (owner-longest rows word)

-- ---- the last row that fits

module _ {K : Type 0} (row : Row K) (after : List (Row K)) (word : List ℕ) (fit : fits row word ≡ true) (none_later : Each (λ other. fits other word ≡ false) after) where
  below-none : (rows : List (Row K)) (n : ℕ) → Each (λ other. fits other word ≡ false) rows → Below n word rows
  below-none [] n h = tt
  below-none (x ∷ rows) n h = (λ t. absurd (let no : true ≡ false = sym t ∙ h.0 in cc), below-none rows n h.1)

  at_most-none : (rows : List (Row K)) (n : ℕ) → Each (λ other. fits other word ≡ false) rows → AtMost n word rows
  at_most-none [] n h = tt
  at_most-none (x ∷ rows) n h = (λ t. absurd (let no : true ≡ false = sym t ∙ h.0 in cc), at_most-none rows n h.1)

  has-middle : (before : List (Row K)) → Has (before ++ row ∷ after) row
  has-middle [] = inl refl
  has-middle (x ∷ before) = inr (has-middle before)

  wins-last : (before : List (Row K)) → Wins word (before ++ row ∷ after) row
  wins-last [] = inl (refl, below-none after (length row.flag) none_later)
  wins-last (x ∷ before) = inr (wins-last before)

  at_most-last : (before : List (Row K)) → is_table (before ++ row ∷ after) ≡ true → AtMost (length row.flag) word (before ++ row ∷ after)
  at_most-last [] t = (λ _. omega arith, at_most-none after (length row.flag) none_later)
  at_most-last (x ∷ before) t = (
    λ f. let less = first_shorter x row word f fit (first_before x (before ++ row ∷ after) row t (has-middle before)) in omega (arith, less),
    at_most-last before (rest_is_table x (before ++ row ∷ after) t),
  )

  pub last_fit_owns : (before : List (Row K)) → is_table (before ++ row ∷ after) ≡ true → owner (before ++ row ∷ after) word ≡ Some row
  last_fit_owns before t = owner-wins word (before ++ row ∷ after) row fit (at_most-last before t) (wins-last before)
