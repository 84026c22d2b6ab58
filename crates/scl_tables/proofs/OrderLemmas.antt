use Rattle.std.proofs.Common.{◌≡◌, ◌≢◌, ℕ, zero, suc, ◌+◌, ◌<◌, ◌≤◌, true, false, cond, nat_lt, nat_eq, ◌==◌, ◌&&◌, List, [], ◌∷◌, length, drop, take, slice_index_or, None, Some, refl, sym, ap, subst, ◌∙◌, length-drop, arith}
use Rattle.std.proofs.lemmas.Bool.{and_parts}
use Rattle.std.proofs.lemmas.Bool.Decides.{nat_tests}
use Rattle.std.specs.Cmp.Lexicographic.{pointwise, slice_cmp}
use Rattle.std.specs.Ordering.{nat_cmp, is_gt, is_lt, ordering_then, ordering_reverse, MatchOrdering}
use Rattle.std.specs.declared.cmp.Ordering.{Ordering}
use Rattle.std.specs.declared.cmp.Ordering.TheVariants.{Less, Equal, Greater}
use Rattle.std.specs.List.{starts_with, common_prefix_len}
use Rattle.std.proofs.lemmas.Cmp.{nat_list_cmp_total}
use Rattle.scl_values.specs.Row.{Row, joins, fits}
use Rattle.scl_values.specs.Tables.{is_table, comes_before, has_ascii_delimiter, longer, owner}
use Rattle.scl_tables.proofs.TablesLemmas.{owner_cons, longer_longer}

abbrev pub cmp : List ℕ → List ℕ → Ordering
cmp = slice_cmp nat_cmp

pub is_less : (o : Ordering) → is_lt o ≡ true → o ≡ Less
is_less Less h = refl
is_less Equal h = absurd (cc)
is_less Greater h = absurd (cc)

is_greater : (o : Ordering) → is_gt o ≡ true → o ≡ Greater
is_greater Less h = absurd (cc)
is_greater Equal h = absurd (cc)
is_greater Greater h = refl

-- ---- a table's flags rise

first_below : {K : Type 0} (flag : List ℕ) (rows : List (Row K)) → comes_before flag rows ≡ true → is_table rows ≡ true → (k : ℕ) (d : Row K) → k < length rows → cmp flag (slice_index_or rows k d).flag ≡ Less
first_below flag [] c t k d h = absurd (omega arith)
first_below flag (row ∷ rows) c t zero d h = is_less _ c
first_below flag (row ∷ rows) c t (suc k) d h =
    let ab = and_parts (has_ascii_delimiter row.shape && comes_before row.flag rows) (is_table rows) t in
    let a = and_parts (has_ascii_delimiter row.shape) (comes_before row.flag rows) ab.0 in
    nat_list_cmp_total.trans flag row.flag (slice_index_or rows k d).flag (is_less _ c) (first_below row.flag rows a.1 ab.1 k d (omega arith))

pub rising : {K : Type 0} (rows : List (Row K)) → is_table rows ≡ true → (j k : ℕ) (d : Row K) → j < k → k < length rows → cmp (slice_index_or rows j d).flag (slice_index_or rows k d).flag ≡ Less
rising [] t j k d h l = absurd (omega arith)
rising (row ∷ rows) t j zero d h l = absurd (omega arith)
rising (row ∷ rows) t zero (suc k) d h l =
    let ab = and_parts (has_ascii_delimiter row.shape && comes_before row.flag rows) (is_table rows) t in
    let a = and_parts (has_ascii_delimiter row.shape) (comes_before row.flag rows) ab.0 in
    first_below row.flag rows a.1 ab.1 k d (omega arith)
rising (row ∷ rows) t (suc j) (suc k) d h l = let ab = and_parts (has_ascii_delimiter row.shape && comes_before row.flag rows) (is_table rows) t in rising rows ab.1 j k d (omega arith) (omega arith)

greater_up : (x y key : List ℕ) → cmp x y ≡ Less → is_gt (cmp x key) ≡ true → is_gt (cmp y key) ≡ true
greater_up x y key l g =
    let gt : cmp x key ≡ Greater = is_greater _ g in
    let back : cmp key x ≡ Less = nat_list_cmp_total.antisymm key x ∙ ap ordering_reverse gt in
    let over : cmp y key ≡ Greater = nat_list_cmp_total.antisymm y key ∙ ap ordering_reverse (nat_list_cmp_total.trans key x y back l) in
    ap is_gt over

module _ {K : Type 0} (rows : List (Row K)) (table : is_table rows ≡ true) (key : List ℕ) (m : ℕ) where
  pub above_from : ((d : Row K) → is_gt (cmp (slice_index_or rows m d).flag key) ≡ true) → (k : ℕ) (d : Row K) → m ≤ k → k < length rows → is_gt (cmp (slice_index_or rows k d).flag key) ≡ true
  above_from g k d h l =
      elim (m == k) as (λ b. (m == k) ≡ b → is_gt (cmp (slice_index_or rows k d).flag key) ≡ true) [
        | true ↦ λ e. let same : m ≡ k = grind (arith, nat_tests) in let P : ℕ → Type 0 = λ i. is_gt (cmp (slice_index_or rows i d).flag key) ≡ true in subst P same (g d)
        | false ↦ λ e. let less : m < k = grind (arith, nat_tests) in greater_up _ _ key (rising rows table m k d less l) (g d)
      ] refl

  pub below_to : m < length rows → ((d : Row K) → is_gt (cmp (slice_index_or rows m d).flag key) ≡ false) → (k : ℕ) (d : Row K) → k ≤ m → is_gt (cmp (slice_index_or rows k d).flag key) ≡ false
  below_to l g k d h =
      elim (k == m) as (λ b. (k == m) ≡ b → is_gt (cmp (slice_index_or rows k d).flag key) ≡ false) [
        | true ↦ λ e. let same : m ≡ k = grind (arith, nat_tests) in let P : ℕ → Type 0 = λ i. is_gt (cmp (slice_index_or rows i d).flag key) ≡ false in subst P same (g d)
        | false ↦ λ e. let less : k < m = grind (arith, nat_tests) in
            elim (is_gt (cmp (slice_index_or rows k d).flag key)) as (λ b. is_gt (cmp (slice_index_or rows k d).flag key) ≡ b → b ≡ false) [
              | true ↦ λ q. let up : is_gt (cmp (slice_index_or rows m d).flag key) ≡ true = greater_up _ _ key (rising rows table k m d less l) q in let no = g d in absurd (cc)
              | false ↦ λ _. refl
            ] refl
      ] refl

-- ---- prefixes

abbrev pub IsPrefix : List ℕ → List ℕ → Type 0
IsPrefix [] w = Unit {0}
IsPrefix (x ∷ xs) [] = ⊥
IsPrefix (x ∷ xs) (y ∷ ys) = (x ≡ y) × IsPrefix xs ys

pub head : (x y : ℕ) → MatchOrdering (nat_cmp x y) (x < y) (x ≡ y) (y < x)
head x y = elim (nat_lt x y) as (λ b. nat_lt x y ≡ b → MatchOrdering (cond b Less (cond (x == y) Equal Greater)) (x < y) (x ≡ y) (y < x)) [
  | true ↦ λ e. grind (arith, nat_tests)
  | false ↦ λ e. elim (x == y) as (λ b. (x == y) ≡ b → MatchOrdering (cond b Equal Greater) (x < y) (x ≡ y) (y < x)) [
    | true ↦ λ q. grind (arith, nat_tests)
    | false ↦ λ q. grind (arith, nat_tests)
  ] refl
] refl

pub prefix_not_after : (p key : List ℕ) → IsPrefix p key → is_gt (cmp p key) ≡ false
prefix_not_after [] [] h = refl
prefix_not_after [] (y ∷ ys) h = refl
prefix_not_after (x ∷ xs) [] h = absurd h
prefix_not_after (x ∷ xs) (y ∷ ys) h =
    elim (nat_cmp x y) as (λ o. MatchOrdering o (x < y) (x ≡ y) (y < x) → is_gt (ordering_then o (cmp xs ys)) ≡ false) [
      | Less ↦ λ m. refl
      | Equal ↦ λ m. prefix_not_after xs ys h.1
      | Greater ↦ λ m. let e = h.0 in absurd (omega arith)
    ] (head x y)

-- Take a prefix of the key that is less than a list, which is at most the key. It is shorter than that list, and no longer
-- than what the list and the key share.
pub prefix_before : (p r key : List ℕ) → IsPrefix p key → cmp p r ≡ Less → is_gt (cmp r key) ≡ false → (length p ≤ common_prefix_len nat_eq r key) × (length p < length r)
prefix_before [] [] key h l g = absurd (cc)
prefix_before [] (y ∷ r) key h l g = (omega arith, omega arith)
prefix_before (x ∷ p) r [] h l g = absurd h
prefix_before (x ∷ p) [] (z ∷ key) h l g = absurd (cc)
prefix_before (x ∷ p) (y ∷ r) (z ∷ key) h l g =
    elim (nat_cmp x y) as (λ o. MatchOrdering o (x < y) (x ≡ y) (y < x) → ordering_then o (cmp p r) ≡ Less → (length (x ∷ p) ≤ common_prefix_len nat_eq (y ∷ r) (z ∷ key)) × (length (x ∷ p) < length (y ∷ r))) [
      | Less ↦ λ m _. elim (nat_cmp y z) as (λ o. MatchOrdering o (y < z) (y ≡ z) (z < y) → is_gt (ordering_then o (cmp r key)) ≡ false → (length (x ∷ p) ≤ common_prefix_len nat_eq (y ∷ r) (z ∷ key)) × (length (x ∷ p) < length (y ∷ r))) [
        | Less ↦ λ n _. let e = h.0 in absurd (omega arith)
        | Equal ↦ λ n _. let e = h.0 in absurd (omega arith)
        | Greater ↦ λ n q. absurd (cc)
      ] (head y z) g
      | Equal ↦ λ m l'. elim (nat_cmp y z) as (λ o. MatchOrdering o (y < z) (y ≡ z) (z < y) → is_gt (ordering_then o (cmp r key)) ≡ false → (length (x ∷ p) ≤ common_prefix_len nat_eq (y ∷ r) (z ∷ key)) × (length (x ∷ p) < length (y ∷ r))) [
        | Less ↦ λ n _. let e = h.0 in absurd (omega arith)
        | Equal ↦ λ n q.
            let more = prefix_before p r key h.1 l' q in
            let test : (y == z) ≡ true = grind (arith, nat_tests) in
            let le : length p ≤ common_prefix_len nat_eq r key = more.0 in
            (rw (test, common_prefix_len) (omega arith), omega (arith, more.1))
        | Greater ↦ λ n _. let e = h.0 in absurd (omega arith)
      ] (head y z) g
      | Greater ↦ λ m l'. absurd (cc)
    ] (head x y) l

-- a list that is at most the key and no prefix of it shares less with it than the key's length
pub shares_less : (r key : List ℕ) → is_gt (cmp r key) ≡ false → common_prefix_len nat_eq r key < length r → common_prefix_len nat_eq r key < length key
shares_less [] key g l = absurd (omega arith)
shares_less (y ∷ r) [] g l = absurd (cc)
shares_less (y ∷ r) (z ∷ key) g l =
    elim (y == z) as (λ b. (y == z) ≡ b → cond b (1 + common_prefix_len nat_eq r key) 0 < length (y ∷ r) → cond b (1 + common_prefix_len nat_eq r key) 0 < length (z ∷ key)) [
      | true ↦ λ e l'. elim (nat_cmp y z) as (λ o. MatchOrdering o (y < z) (y ≡ z) (z < y) → is_gt (ordering_then o (cmp r key)) ≡ false → 1 + common_prefix_len nat_eq r key < length (z ∷ key)) [
        | Less ↦ λ n _. absurd (grind (arith, nat_tests))
        | Equal ↦ λ n q. let more = shares_less r key q (omega arith) in omega arith
        | Greater ↦ λ n _. absurd (grind (arith, nat_tests))
      ] (head y z) g
      | false ↦ λ e l'. omega arith
    ] refl l

common_none : (xs ys : List ℕ) → length ys ≡ 0 → common_prefix_len nat_eq xs ys ≡ 0
common_none [] ys h = refl
common_none (x ∷ xs) [] h = refl
common_none (x ∷ xs) (y ∷ ys) h = absurd (omega arith)

pub common_end : (xs ys : List ℕ) (n : ℕ) → length ys ≤ n → common_prefix_len nat_eq xs (drop n ys) ≡ 0
common_end xs ys n h = common_none xs (drop n ys) (omega (arith, length-drop n ys))

-- ---- the owner, by indices

pub owner_none : {K : Type 0} (rows : List (Row K)) (word : List ℕ) → ((k : ℕ) (d : Row K) → k < length rows → fits (slice_index_or rows k d) word ≡ false) → owner rows word ≡ None
owner_none [] word h = refl
owner_none (row ∷ rows) word h = owner_cons row rows word ∙ rw (h 0 row (omega arith)) (owner_none rows word (λ k d l. h (suc k) d (omega arith)))

shorter_kept : {K : Type 0} (row : Row K) (rows : List (Row K)) (word : List ℕ) → ((k : ℕ) (d : Row K) → k < length rows → fits (slice_index_or rows k d) word ≡ true → length (slice_index_or rows k d).flag < length row.flag)
    → longer (Some row) (owner rows word) ≡ Some row
shorter_kept row [] word h = refl
shorter_kept row (x ∷ rows) word h =
    let rest = shorter_kept row rows word (λ k d l f. h (suc k) d (omega arith) f) in
    rw owner_cons (elim (fits x word) as (λ b. fits x word ≡ b → longer (Some row) (cond b (longer (Some x) (owner rows word)) (owner rows word)) ≡ Some row) [
      | true ↦ λ e. sym (longer_longer (Some row) (Some x) (owner rows word)) ∙ (let less : length x.flag < length row.flag = h 0 x (omega arith) e in let test : nat_lt (length x.flag) (length row.flag) ≡ true = grind (arith, nat_tests) in rw test rest)
      | false ↦ λ e. rest
    ] refl)

pub owner_some : {K : Type 0} (rows : List (Row K)) (word : List ℕ) (m : ℕ) (row : Row K) → m < length rows → ((d : Row K) → slice_index_or rows m d ≡ row) → fits row word ≡ true
    → ((k : ℕ) (d : Row K) → k < length rows → k ≢ m → fits (slice_index_or rows k d) word ≡ true → length (slice_index_or rows k d).flag < length row.flag) → owner rows word ≡ Some row
owner_some [] word m row l at f h = absurd (omega arith)
owner_some (x ∷ rows) word zero row l at f h =
    let same : x ≡ row = at x in
    rw (owner_cons x rows word, same, f) (shorter_kept row rows word (λ k d l' g. h (suc k) d (omega arith) (λ e. absurd (omega (arith, e))) g))
owner_some (x ∷ rows) word (suc m) row l at f h =
    let rest : owner rows word ≡ Some row = owner_some rows word m row (omega arith) at f (λ k d l' n g. h (suc k) d (omega arith) (λ e. n (omega (arith, e))) g) in
    rw (owner_cons x rows word, rest) (elim (fits x word) as (λ b. fits x word ≡ b → cond b (longer (Some x) (Some row)) (Some row) ≡ Some row) [
      | true ↦ λ e. let less : length x.flag < length row.flag = h 0 x (omega arith) (λ z. absurd (omega (arith, z))) e in let test : nat_lt (length row.flag) (length x.flag) ≡ false = grind (arith, nat_tests) in rw test refl
      | false ↦ λ e. refl
    ] refl)

-- ---- a row that fits a word has a flag that begins it

starts_prefix : (word flag : List ℕ) (n : ℕ) → pointwise nat_eq flag (take (length flag) word) ≡ true → length flag ≤ n → IsPrefix flag (take n word)
starts_prefix word [] n h l = tt
starts_prefix [] (x ∷ xs) n h l = absurd (cc)
starts_prefix (y ∷ ys) (x ∷ xs) zero h l = absurd (omega arith)
starts_prefix (y ∷ ys) (x ∷ xs) (suc n) h l =
    let parts = and_parts (nat_eq x y) _ h in
    let first : nat_eq x y ≡ true = parts.0 in
    (grind (arith, nat_tests), starts_prefix ys xs n parts.1 (omega arith))

pub fits_prefix : {K : Type 0} (row : Row K) (word : List ℕ) (n : ℕ) → fits row word ≡ true → length row.flag ≤ n → IsPrefix row.flag (take n word)
fits_prefix row word n h l = let parts = and_parts (starts_with nat_eq word row.flag) (joins row.shape (drop (length row.flag) word)) h in starts_prefix word row.flag n parts.0 l

-- ---- one round: the rows before index i are at most the first n bytes of the word, the others are greater, and no row that
-- fits is longer than n
module _ {K : Type 0} (rows : List (Row K)) (table : is_table rows ≡ true) (word : List ℕ) (n i : ℕ)
    (above : (k : ℕ) (d : Row K) → i ≤ k → k < length rows → is_gt (cmp (slice_index_or rows k d).flag (take n word)) ≡ true)
    (short : (k : ℕ) (d : Row K) → k < length rows → fits (slice_index_or rows k d) word ≡ true → length (slice_index_or rows k d).flag ≤ n) where
  pub fits_below : (k : ℕ) (d : Row K) → k < length rows → fits (slice_index_or rows k d) word ≡ true → k < i
  fits_below k d l f =
      elim (nat_lt k i) as (λ b. nat_lt k i ≡ b → k < i) [
        | true ↦ λ e. grind (arith, nat_tests)
        | false ↦ λ e.
            let far : i ≤ k = grind (arith, nat_tests) in
            let after : is_gt (cmp (slice_index_or rows k d).flag (take n word)) ≡ true = above k d far l in
            let not : is_gt (cmp (slice_index_or rows k d).flag (take n word)) ≡ false = prefix_not_after (slice_index_or rows k d).flag (take n word) (fits_prefix (slice_index_or rows k d) word n f (short k d l f)) in
            absurd (cc)
      ] refl

  pub fits_shorter : (m : ℕ) (row : Row K) → i ≡ m + 1 → i ≤ length rows → ((d : Row K) → slice_index_or rows m d ≡ row) → is_gt (cmp row.flag (take n word)) ≡ false
      → (k : ℕ) (d : Row K) → k < length rows → k ≢ m → fits (slice_index_or rows k d) word ≡ true
      → (length (slice_index_or rows k d).flag ≤ common_prefix_len nat_eq row.flag (take n word)) × (length (slice_index_or rows k d).flag < length row.flag)
  fits_shorter m row e le at not k d l ne f =
      let under : k < i = fits_below k d l f in
      let less : k < m = omega (arith, ne) in
      let P : Row K → Type 0 = λ r. cmp (slice_index_or rows k d).flag r.flag ≡ Less in
      prefix_before (slice_index_or rows k d).flag row.flag (take n word) (fits_prefix (slice_index_or rows k d) word n f (short k d l f))
      (subst P (at d) (rising rows table k m d less (omega arith))) not

pub none_fits : {K : Type 0} (rows : List (Row K)) (word : List ℕ) → ((k : ℕ) (d : Row K) → k < length rows → fits (slice_index_or rows k d) word ≡ true → ⊥) → owner rows word ≡ None
none_fits rows word h = owner_none rows word (λ k d l.
    elim (fits (slice_index_or rows k d) word) as (λ b. fits (slice_index_or rows k d) word ≡ b → b ≡ false) [
      | true ↦ λ e. absurd (h k d l e)
      | false ↦ λ _. refl
    ] refl)

pub other_place : {K : Type 0} (rows : List (Row K)) (word : List ℕ) (m : ℕ) (row : Row K) → ((d : Row K) → slice_index_or rows m d ≡ row) → fits row word ≡ false → (k : ℕ) (d : Row K) → fits (slice_index_or rows k d) word ≡ true → k ≢ m
other_place rows word m row at unfit k d f e =
    let P : ℕ → Type 0 = λ j. fits (slice_index_or rows j d) word ≡ true in
    let there : fits (slice_index_or rows m d) word ≡ true = subst P e f in
    let here : fits row word ≡ true = rw (at d) at there in
    cc
