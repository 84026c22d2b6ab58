use Rattle.std.proofs.Common.{◌≡◌, ℕ, ◌<◌, true, false, cond, nat_lt, not, ◌&&◌, ◌||◌, ◌==◌, ◌⊎◌, inl, inr, List, [], ◌∷◌, length, refl, sym, ap, nat_eq, ◌∙◌, arith}
use Rattle.std.proofs.lemmas.Bool.Decides.{nat_tests}
use Rattle.std.proofs.lemmas.Cmp.{nat_list_cmp_total}
use Rattle.std.specs.Cmp.Lexicographic.{slice_cmp}
use Rattle.std.specs.Ordering.{nat_cmp, is_lt, ordering_then}
use Rattle.std.specs.declared.cmp.Ordering.{Ordering}
use Rattle.std.specs.declared.cmp.Ordering.TheVariants.{Less, Equal, Greater}
use Rattle.scl_values.specs.Row.{Row}
use Rattle.scl_values.specs.Tables.{is_table, comes_before, has_ascii_delimiter}
use Rattle.scl_args.specs.Checks.{extends, is_last, next_is_clear}
use Rattle.scl_tables.proofs.PrefixLemmas.{both}

abbrev cmp : List ℕ → List ℕ → Ordering
cmp = slice_cmp nat_cmp

is_less : (o : Ordering) → is_lt o ≡ true → o ≡ Less
is_less Less h = refl
is_less Equal h = absurd (cc)
is_less Greater h = absurd (cc)

equal : (x y : ℕ) → nat_eq x y ≡ true → x ≡ y
equal x y h = grind (arith, nat_tests)

same : (x : ℕ) → nat_eq x x ≡ true
same x = grind (arith, nat_tests)

-- the first differing bytes
then_less : (a b : ℕ) (o : Ordering) → ordering_then (nat_cmp a b) o ≡ Less → (a < b) ⊎ ((a ≡ b) × (o ≡ Less))
then_less a b o h =
    elim (nat_lt a b) as (λ t. nat_lt a b ≡ t → ordering_then (cond t Less (cond (a == b) Equal Greater)) o ≡ Less → (a < b) ⊎ ((a ≡ b) × (o ≡ Less))) [
      | true ↦ λ e _. inl (grind (arith, nat_tests))
      | false ↦ λ e. elim (a == b) as (λ u. (a == b) ≡ u → ordering_then (cond u Equal Greater) o ≡ Less → (a < b) ⊎ ((a ≡ b) × (o ≡ Less))) [
        | true ↦ λ f k. inr (grind (arith, nat_tests), k)
        | false ↦ λ f k. absurd (cc)
      ] refl
    ] refl h

less_itself : (a : ℕ) (o : Ordering) → ordering_then (nat_cmp a a) o ≡ o
less_itself a o = let n : nat_lt a a ≡ false = grind (arith, nat_tests) in let e : (a == a) ≡ true = grind (arith, nat_tests) in rw (n, e) refl

-- a longer flag that begins with a flag is greater
longer-after : (f y : List ℕ) → extends y f ≡ true → length f < length y → cmp f y ≡ Less
longer-after [] [] e l = absurd (omega arith)
longer-after [] (y ∷ ys) e l = refl
longer-after (x ∷ f) [] e l = absurd (cc)
longer-after (x ∷ f) (y ∷ ys) e l =
    let ab = both (nat_eq x y) (extends ys f) e in
    let s : x ≡ y = equal x y ab.0 in
    rw s (less_itself y (cmp f ys) ∙ longer-after f ys ab.1 (omega arith))

-- what is between a flag and a longer one that begins with it begins with it too
between : (f x y : List ℕ) → cmp f x ≡ Less → cmp x y ≡ Less → extends y f ≡ true → extends x f ≡ true
between [] x y p q e = refl
between (a ∷ f) [] y p q e = absurd (cc)
between (a ∷ f) (b ∷ x) [] p q e = absurd (cc)
between (a ∷ f) (b ∷ x) (c ∷ y) p q e =
    let ab = both (nat_eq a c) (extends y f) e in
    let s : a ≡ c = equal a c ab.0 in
    by (then_less a b (cmp f x) p) (then_less b c (cmp x y) q) s (λ l m. between f x y l m ab.1)
  where
    by : (a < b) ⊎ ((a ≡ b) × (cmp f x ≡ Less)) → (b < c) ⊎ ((b ≡ c) × (cmp x y ≡ Less)) → a ≡ c → (cmp f x ≡ Less → cmp x y ≡ Less → extends x f ≡ true) → (nat_eq a b && extends x f) ≡ true
    by (inl l) (inl m) s h = absurd (omega arith)
    by (inl l) (inr m) s h = absurd (let n : b ≡ c = m.0 in omega arith)
    by (inr l) (inl m) s h = absurd (let n : a ≡ b = l.0 in omega arith)
    by (inr l) (inr m) s h = rw (l.0, same b) (h l.1 m.1)

-- ---- a table

rising : {K : Type 0} (flag : List ℕ) (rows : List (Row K)) → comes_before flag rows ≡ true → is_table rows ≡ true → (f : List ℕ) → cmp f flag ≡ Less → comes_before f rows ≡ true
rising flag [] c t f l = refl
rising flag (row ∷ rows) c t f l = ap is_lt (nat_list_cmp_total.trans f flag row.flag l (is_less _ c))

-- no later flag extends the flag, if a smaller flag after it does not
none_after : {K : Type 0} (f x : List ℕ) (rows : List (Row K)) → cmp f x ≡ Less → not (extends x f) ≡ true → comes_before x rows ≡ true → is_table rows ≡ true → is_last f rows ≡ true
none_after f x [] l n c t = refl
none_after f x (row ∷ rows) l n c t =
    let ab = both _ (is_table rows) t in
    let a = both (has_ascii_delimiter row.shape) (comes_before row.flag rows) ab.0 in
    let xr : cmp x row.flag ≡ Less = is_less _ c in
    elim (extends row.flag f) as (λ b. extends row.flag f ≡ b → ((not b || not (nat_lt (length f) (length row.flag))) && is_last f rows) ≡ true) [
      | true ↦ λ e. absurd (let k : extends x f ≡ true = between f x row.flag l xr e in let m : not true ≡ true = ap not (sym k) ∙ n in cc)
      | false ↦ λ e. none_after f x rows l n (rising row.flag rows a.1 ab.1 x xr) ab.1
    ] refl

-- no flag of a table extends the flag, if the next greater one does not
pub is_last-next : {K : Type 0} (f : List ℕ) (rows : List (Row K)) → is_table rows ≡ true → next_is_clear f rows ≡ true → is_last f rows ≡ true
is_last-next {K = K} f [] t n = refl
is_last-next {K = K} f (row ∷ rows) t n =
    let ab = both _ (is_table rows) t in
    let a = both (has_ascii_delimiter row.shape) (comes_before row.flag rows) ab.0 in
    elim (is_lt (cmp f row.flag)) as (λ b. is_lt (cmp f row.flag) ≡ b → cond b (not (extends row.flag f)) (next_is_clear f rows) ≡ true → is_last f (row ∷ rows) ≡ true) [
      | true ↦ λ e k. here row.flag rows e k a.1 ab.1
      | false ↦ λ e k. not_here e (is_last-next f rows ab.1 k)
    ] refl n
  where
    here : (x : List ℕ) (rs : List (Row K)) → is_lt (cmp f x) ≡ true → not (extends x f) ≡ true → comes_before x rs ≡ true → is_table rs ≡ true → ((not (extends x f) || not (nat_lt (length f) (length x))) && is_last f rs) ≡ true
    here x rs e k c t = rw k (none_after f x rs (is_less _ e) k c t)

    not_here : is_lt (cmp f row.flag) ≡ false → is_last f rows ≡ true → ((not (extends row.flag f) || not (nat_lt (length f) (length row.flag))) && is_last f rows) ≡ true
    not_here e r = elim (extends row.flag f) as (λ b. extends row.flag f ≡ b → ((not b || not (nat_lt (length f) (length row.flag))) && is_last f rows) ≡ true) [
      | false ↦ λ s. r
      | true ↦ λ s. elim (nat_lt (length f) (length row.flag)) as (λ b. nat_lt (length f) (length row.flag) ≡ b → ((not b) && is_last f rows) ≡ true) [
        | true ↦ λ l. absurd (let lt : length f < length row.flag = grind (arith, nat_tests) in let less : is_lt (cmp f row.flag) ≡ true = ap is_lt (longer-after f row.flag s lt) in let no : true ≡ false = sym less ∙ e in cc)
        | false ↦ λ l. r
      ] refl
    ] refl
