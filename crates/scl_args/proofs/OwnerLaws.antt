-- Owners, by what they are: rows that fit, none of them longer.
use Rattle.std.proofs.Common.{◌≡◌, ℕ, ◌<◌, ◌≤◌, Bool, true, false, cond, nat_lt, ◌⊎◌, inl, inr, List, [], ◌∷◌, ◌++◌, length, filter, Option, None, Some, MatchOption, refl, sym, ap, subst, ◌∙◌, arith}
use Rattle.std.proofs.lemmas.Bool.Decides.{nat_tests}
use Rattle.std.proofs.lemmas.List.Elements.{filter-append}
use Rattle.scl_values.specs.Row.{Row, fits}
use Rattle.scl_values.specs.Tables.{longer, longest, owner, owner_in, all_rows}
use Rattle.scl_values.specs.Each.{Each, Has}
use Rattle.scl_args.specs.Laws.{IsLongestFit}
use Rattle.scl_tables.proofs.TablesLemmas.{longer_longer, owner_cons, owner_in_append}

longest-append : {K : Type 0} (xs ys : List (Row K)) → longest (xs ++ ys) ≡ longer (longest xs) (longest ys)
longest-append [] ys = refl
longest-append (x ∷ xs) ys = ap (longer (Some x)) (longest-append xs ys) ∙ sym (longer_longer (Some x) (longest xs) (longest ys))

owner-append : {K : Type 0} (xs ys : List (Row K)) (word : List ℕ) → owner (xs ++ ys) word ≡ longer (owner xs word) (owner ys word)
owner-append xs ys word = rw (filter-append (λ row. fits row word) xs ys) (longest-append (filter (λ row. fits row word) xs) (filter (λ row. fits row word) ys))

-- the owner in several tables is the owner in one list of all their rows
pub owner_in-is : {K : Type 0} (tables : List (List (Row K))) (word : List ℕ) → owner_in tables word ≡ owner (all_rows tables) word
owner_in-is [] word = refl
owner_in-is (rows ∷ tables) word = ap (longer (owner rows word)) (owner_in-is tables word) ∙ sym (owner-append rows (all_rows tables) word)

-- ---- an owner is a longest fit

none_or : {K : Type 0} (x : Row K) (rows : List (Row K)) (word : List ℕ) → fits x word ≡ false → ((row : Row K) → Has rows row → fits row word ≡ false) → (row : Row K) → Has (x ∷ rows) row → fits row word ≡ false
none_or x rows word f h row (inl e) = ap (λ r. fits r word) (sym e) ∙ f
none_or x rows word f h row (inr e) = h row e

no_longer-later : {K : Type 0} (x : Row K) (rows : List (Row K)) (word : List ℕ) (n : ℕ) → (fits x word ≡ true → length x.flag ≤ n) → ((other : Row K) → Has rows other → fits other word ≡ true → length other.flag ≤ n)
    → (other : Row K) → Has (x ∷ rows) other → fits other word ≡ true → length other.flag ≤ n
no_longer-later x rows word n h k other (inl e) f = let P : Row _ → Type 0 = λ r. fits r word ≡ true → length r.flag ≤ n in subst P e h f
no_longer-later x rows word n h k other (inr e) f = k other e f

abbrev LongestIfAny : {K : Type 0} → List (Row K) → List ℕ → Option (Row K) → Type 0
LongestIfAny {K = K} rows word o = MatchOption o ((row : Row K) → Has rows row → fits row word ≡ false) (IsLongestFit rows word)

later : {K : Type 0} (x : Row K) (rows : List (Row K)) (word : List ℕ) (o : Option (Row K)) → fits x word ≡ false → LongestIfAny rows word o → LongestIfAny (x ∷ rows) word o
later x rows word None f h = none_or x rows word f h
later x rows word (Some row) f h = record {
  is_row = inr h.is_row;
  fits_word = h.fits_word;
  none_longer = no_longer-later x rows word (length row.flag) (λ t. absurd (let no : true ≡ false = sym t ∙ f in cc)) h.none_longer;
}

first_or : {K : Type 0} (x : Row K) (rows : List (Row K)) (word : List ℕ) (o : Option (Row K)) → fits x word ≡ true → LongestIfAny rows word o → LongestIfAny (x ∷ rows) word (longer (Some x) o)
first_or x rows word None f h = record {
  is_row = inl refl;
  fits_word = f;
  none_longer = no_longer-later x rows word (length x.flag) (λ _. omega arith) (λ other e t. absurd (let no : true ≡ false = sym t ∙ h other e in cc));
}
first_or x rows word (Some y) f h = elim (nat_lt (length y.flag) (length x.flag)) as (λ t. nat_lt (length y.flag) (length x.flag) ≡ t → LongestIfAny (x ∷ rows) word (cond t (Some x) (Some y))) [
  | true ↦ λ e. record {
    is_row = inl refl;
    fits_word = f;
    none_longer = no_longer-later x rows word (length x.flag) (λ _. omega arith) (λ other i t. let most = h.none_longer other i t in let less : length y.flag < length x.flag = grind (arith, nat_tests) in omega arith);
  }
  | false ↦ λ e. record {
    is_row = inr h.is_row;
    fits_word = h.fits_word;
    none_longer = no_longer-later x rows word (length y.flag) (λ _. grind (arith, nat_tests)) h.none_longer;
  }
] refl

pub owner-longest : {K : Type 0} (rows : List (Row K)) (word : List ℕ) → LongestIfAny rows word (owner rows word)
owner-longest [] word = λ row e. absurd e
owner-longest (x ∷ rows) word =
    elim (fits x word) as (λ b. fits x word ≡ b → LongestIfAny (x ∷ rows) word (longest (cond b (x ∷ filter (λ r. fits r word) rows) (filter (λ r. fits r word) rows)))) [
      | true ↦ λ e. first_or x rows word (owner rows word) e (owner-longest rows word)
      | false ↦ λ e. later x rows word (owner rows word) e (owner-longest rows word)
    ] refl

pub owner_is : {K : Type 0} (rows : List (Row K)) (word : List ℕ) (row : Row K) → owner rows word ≡ Some row → IsLongestFit rows word row
owner_is rows word row e = let P : Option (Row _) → Type 0 = λ o. LongestIfAny rows word o in subst P e (owner-longest rows word)

-- ---- which row is the owner

-- the flags of all fitting rows have at most this length, or less
abbrev pub AtMost : {K : Type 0} → ℕ → List ℕ → List (Row K) → Type 0
AtMost n word [] = Unit {0}
AtMost n word (x ∷ xs) = (fits x word ≡ true → length x.flag ≤ n) × AtMost n word xs

abbrev pub Below : {K : Type 0} → ℕ → List ℕ → List (Row K) → Type 0
Below n word [] = Unit {0}
Below n word (x ∷ xs) = (fits x word ≡ true → length x.flag < n) × Below n word xs

-- the row is one of the rows, and only shorter flags fit after it
abbrev pub Wins : {K : Type 0} → List ℕ → List (Row K) → Row K → Type 0
Wins word [] row = ⊥
Wins word (x ∷ xs) row = ((x ≡ row) × Below (length row.flag) word xs) ⊎ Wins word xs row

abbrev ShorterIfAny : {K : Type 0} → ℕ → Option (Row K) → Type 0
ShorterIfAny n None = Unit {0}
ShorterIfAny n (Some r) = length r.flag < n

abbrev NoLongerIfAny : {K : Type 0} → ℕ → Option (Row K) → Type 0
NoLongerIfAny n None = Unit {0}
NoLongerIfAny n (Some r) = length r.flag ≤ n

shorter-longer : {K : Type 0} (n : ℕ) (a b : Option (Row K)) → ShorterIfAny n a → ShorterIfAny n b → ShorterIfAny n (longer a b)
shorter-longer n None b h k = k
shorter-longer n (Some x) None h k = h
shorter-longer n (Some x) (Some y) h k = elim (nat_lt (length y.flag) (length x.flag)) as (λ t. ShorterIfAny n (cond t (Some x) (Some y))) [ true ↦ h | false ↦ k ]

no_longer-longer : {K : Type 0} (n : ℕ) (a b : Option (Row K)) → NoLongerIfAny n a → NoLongerIfAny n b → NoLongerIfAny n (longer a b)
no_longer-longer n None b h k = k
no_longer-longer n (Some x) None h k = h
no_longer-longer n (Some x) (Some y) h k = elim (nat_lt (length y.flag) (length x.flag)) as (λ t. NoLongerIfAny n (cond t (Some x) (Some y))) [ true ↦ h | false ↦ k ]

owner-below : {K : Type 0} (n : ℕ) (word : List ℕ) (rows : List (Row K)) → Below n word rows → ShorterIfAny n (owner rows word)
owner-below n word [] h = tt
owner-below n word (x ∷ rows) h =
    elim (fits x word) as (λ b. fits x word ≡ b → ShorterIfAny n (longest (cond b (x ∷ filter (λ r. fits r word) rows) (filter (λ r. fits r word) rows)))) [
      | true ↦ λ e. shorter-longer n (Some x) (owner rows word) (h.0 e) (owner-below n word rows h.1)
      | false ↦ λ e. owner-below n word rows h.1
    ] refl

longer-shorter : {K : Type 0} (row : Row K) (o : Option (Row K)) → ShorterIfAny (length row.flag) o → longer (Some row) o ≡ Some row
longer-shorter row None h = refl
longer-shorter row (Some y) h = grind (arith, nat_tests)

longer-at_most : {K : Type 0} (o : Option (Row K)) (row : Row K) → NoLongerIfAny (length row.flag) o → longer o (Some row) ≡ Some row
longer-at_most None row h = refl
longer-at_most (Some x) row h = grind (arith, nat_tests)

cond-same : {A : Type 0} (b : Bool) (x y z : A) → (b ≡ true → x ≡ z) → y ≡ z → cond b x y ≡ z
cond-same true x y z p q = p refl
cond-same false x y z p q = q

pub owner-wins : {K : Type 0} (word : List ℕ) (rows : List (Row K)) (row : Row K) → fits row word ≡ true → AtMost (length row.flag) word rows → Wins word rows row → owner rows word ≡ Some row
owner-wins word [] row f m w = absurd w
owner-wins word (x ∷ rows) row f m (inl (e, below)) =
    let fx : fits x word ≡ true = ap (λ r. fits r word) e ∙ f in
    owner_cons x rows word ∙ rw fx (rw e (longer-shorter row (owner rows word) (owner-below (length row.flag) word rows below)))
owner-wins word (x ∷ rows) row f m (inr w) =
    let more : owner rows word ≡ Some row = owner-wins word rows row f m.1 w in
    owner_cons x rows word ∙ rw more (cond-same (fits x word) (longer (Some x) (Some row)) (Some row) (Some row) (λ h. longer-at_most (Some x) row (m.0 h)) refl)

-- ---- one table of several

module _ {K : Type 0} (word : List ℕ) (n : ℕ) where
  some_below : (o : Option (Row K)) → ((other : Row K) → o ≡ Some other → length other.flag < n) → ShorterIfAny n o
  some_below None h = tt
  some_below (Some x) h = h x refl

  some_at_most : (o : Option (Row K)) → ((other : Row K) → o ≡ Some other → length other.flag ≤ n) → NoLongerIfAny n o
  some_at_most None h = tt
  some_at_most (Some x) h = h x refl

  all_below : (tables : List (List (Row K))) → Each (λ table. (other : Row K) → owner table word ≡ Some other → length other.flag < n) tables → ShorterIfAny n (owner_in tables word)
  all_below [] h = tt
  all_below (rows ∷ tables) h = shorter-longer n (owner rows word) (owner_in tables word) (some_below (owner rows word) h.0) (all_below tables h.1)

  all_at_most : (tables : List (List (Row K))) → Each (λ table. (other : Row K) → owner table word ≡ Some other → length other.flag ≤ n) tables → NoLongerIfAny n (owner_in tables word)
  all_at_most [] h = tt
  all_at_most (rows ∷ tables) h = no_longer-longer n (owner rows word) (owner_in tables word) (some_at_most (owner rows word) h.0) (all_at_most tables h.1)

pub last_table_wins : {K : Type 0} (earlier later : List (List (Row K))) (rows : List (Row K)) (word : List ℕ) (row : Row K) → owner rows word ≡ Some row
    → Each (λ table. (other : Row K) → owner table word ≡ Some other → length other.flag ≤ length row.flag) earlier
    → Each (λ table. (other : Row K) → owner table word ≡ Some other → length other.flag < length row.flag) later
    → owner_in (earlier ++ rows ∷ later) word ≡ Some row
last_table_wins earlier later rows word row e most below =
    let last : longer (owner rows word) (owner_in later word) ≡ Some row = rw e (longer-shorter row (owner_in later word) (all_below word (length row.flag) later below)) in
    owner_in_append earlier (rows ∷ later) word ∙ rw last (longer-at_most (owner_in earlier word) row (all_at_most word (length row.flag) earlier most))
