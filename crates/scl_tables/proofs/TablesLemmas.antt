use Rattle.std.proofs.Common.{◌≡◌, ℕ, ◌+◌, ◌<◌, ◌≤◌, Bool, true, false, cond, nat_lt, ◌&&◌, List, [], ◌∷◌, ◌++◌, length, drop, filter, Option, None, Some, refl, sym, ap, subst, take, nat_eq, get_or, ◌∙◌, arith}
use Rattle.std.proofs.lemmas.List.{drop_more}
use Rattle.std.specs.Cmp.Lexicographic.{pointwise}
use Rattle.std.proofs.lemmas.Bool.Decides.{nat_tests}
use Rattle.std.specs.List.{starts_with, flat_map}
use Rattle.scl_values.specs.Row.{Row, joins, fits}
use Rattle.scl_tables.specs.Probes.{looks_in}
use Rattle.scl_values.specs.Tables.{has_ascii_delimiter, finds_ascii_delimiter, comes_before, is_table, longer, longest, owner, owner_in}

pub longer_none : {K : Type 0} (a : Option (Row K)) → longer a None ≡ a
longer_none None = refl
longer_none (Some r) = refl

-- the last case, by the lengths
longer_three : {K : Type 0} (x y z : Row K) (a b c : ℕ) → length x.flag ≡ a → length y.flag ≡ b → length z.flag ≡ c → longer (longer (Some x) (Some y)) (Some z) ≡ longer (Some x) (longer (Some y) (Some z))
longer_three x y z a b c p q r = grind (arith, nat_tests)

pub longer_longer : {K : Type 0} (a b c : Option (Row K)) → longer (longer a b) c ≡ longer a (longer b c)
longer_longer None b c = refl
longer_longer (Some x) None c = refl
longer_longer (Some x) (Some y) None = longer_none _
longer_longer (Some x) (Some y) (Some z) = longer_three x y z (length x.flag) (length y.flag) (length z.flag) refl refl refl

pub owner_cons : {K : Type 0} (row : Row K) (rows : List (Row K)) (word : List ℕ) → owner (row ∷ rows) word ≡ cond (fits row word) (longer (Some row) (owner rows word)) (owner rows word)
owner_cons row rows word = elim (fits row word) as (λ b. longest (cond b (row ∷ filter (λ r. fits r word) rows) (filter (λ r. fits r word) rows)) ≡ cond b (longer (Some row) (owner rows word)) (owner rows word)) [ true ↦ refl | false ↦ refl ]

pub owner_in_append : {K : Type 0} (xs ys : List (List (Row K))) (word : List ℕ) → owner_in (xs ++ ys) word ≡ longer (owner_in xs word) (owner_in ys word)
owner_in_append [] ys word = refl
owner_in_append (x ∷ xs) ys word = ap (longer (owner x word)) (owner_in_append xs ys word) ∙ sym (longer_longer (owner x word) (owner_in xs word) (owner_in ys word))

-- every row that a search finds fits the word
abbrev FitsIfAny : {K : Type 0} → Option (Row K) → List ℕ → Type 0
FitsIfAny None word = Unit {0}
FitsIfAny (Some row) word = fits row word ≡ true

FitsIfAny-longer : {K : Type 0} (a b : Option (Row K)) (word : List ℕ) → FitsIfAny a word → FitsIfAny b word → FitsIfAny (longer a b) word
FitsIfAny-longer None b word p q = q
FitsIfAny-longer (Some x) None word p q = p
FitsIfAny-longer (Some x) (Some y) word p q = elim (nat_lt (length y.flag) (length x.flag)) as (λ t. FitsIfAny (cond t (Some x) (Some y)) word) [ true ↦ p | false ↦ q ]

FitsIfAny-owner : {K : Type 0} (rows : List (Row K)) (word : List ℕ) → FitsIfAny (owner rows word) word
FitsIfAny-owner [] word = tt
FitsIfAny-owner (row ∷ rows) word =
    elim (fits row word) as (λ b. fits row word ≡ b → FitsIfAny (longest (cond b (row ∷ filter (λ r. fits r word) rows) (filter (λ r. fits r word) rows))) word) [
      | true ↦ λ e. FitsIfAny-longer (Some row) (owner rows word) word e (FitsIfAny-owner rows word)
      | false ↦ λ e. FitsIfAny-owner rows word
    ] refl

FitsIfAny-owner_in : {K : Type 0} (tables : List (List (Row K))) (word : List ℕ) → FitsIfAny (owner_in tables word) word
FitsIfAny-owner_in [] word = tt
FitsIfAny-owner_in (rows ∷ tables) word = FitsIfAny-longer (owner rows word) (owner_in tables word) word (FitsIfAny-owner rows word) (FitsIfAny-owner_in tables word)

pub owner_in_fits : {K : Type 0} (tables : List (List (Row K))) (word : List ℕ) (row : Row K) → Some row ≡ owner_in tables word → fits row word ≡ true
owner_in_fits {K = K} tables word row e = let P : Option (Row K) → Type 0 = λ o. FitsIfAny o word in subst P (sym e) (FitsIfAny-owner_in tables word)

starts_with-length : (word flag : List ℕ) → pointwise nat_eq flag (take (length flag) word) ≡ true → length flag ≤ length word
starts_with-length word [] h = omega arith
starts_with-length [] (x ∷ xs) h = cc
starts_with-length (y ∷ ys) (x ∷ xs) h =
    elim (nat_eq x y) as (λ b. (b && pointwise nat_eq xs (take (length xs) ys)) ≡ true → length (x ∷ xs) ≤ length (y ∷ ys)) [
      | true ↦ λ e. omega (arith, starts_with-length ys xs e)
      | false ↦ λ e. cc
    ] h

fits-length : {K : Type 0} (row : Row K) (word : List ℕ) → fits row word ≡ true → length row.flag ≤ length word
fits-length row word h =
    elim (starts_with nat_eq word row.flag) as (λ b. starts_with nat_eq word row.flag ≡ b → (b && joins row.shape (drop (length row.flag) word)) ≡ true → length row.flag ≤ length word) [
      | true ↦ λ e _. starts_with-length word row.flag e
      | false ↦ λ _ e. cc
    ] refl h

pub owner_in_length : {K : Type 0} (tables : List (List (Row K))) (word : List ℕ) (row : Row K) → Some row ≡ owner_in tables word → length row.flag ≤ length word
owner_in_length tables word row e = fits-length row word (owner_in_fits tables word row e)

-- in a table, the row that a search finds has an ASCII delimiter or none
finds-longer : {K : Type 0} (a b : Option (Row K)) → finds_ascii_delimiter a ≡ true → finds_ascii_delimiter b ≡ true → finds_ascii_delimiter (longer a b) ≡ true
finds-longer None b p q = q
finds-longer (Some x) None p q = p
finds-longer (Some x) (Some y) p q = elim (nat_lt (length y.flag) (length x.flag)) as (λ t. finds_ascii_delimiter (cond t (Some x) (Some y)) ≡ true) [ true ↦ p | false ↦ q ]

both-hold : (a b c : Bool) → (a && b && c) ≡ true → (a ≡ true) × (c ≡ true)
both-hold true true c h = (refl, h)
both-hold true false c h = cc
both-hold false b c h = cc

pub owner_finds_ascii_delimiter : {K : Type 0} (rows : List (Row K)) (word : List ℕ) → is_table rows ≡ true → finds_ascii_delimiter (owner rows word) ≡ true
owner_finds_ascii_delimiter [] word h = refl
owner_finds_ascii_delimiter (row ∷ rows) word h =
    let part = both-hold (has_ascii_delimiter row.shape) (comes_before row.flag rows) (is_table rows) h in
    let more = owner_finds_ascii_delimiter rows word part.1 in
    elim (fits row word) as (λ b. finds_ascii_delimiter (longest (cond b (row ∷ filter (λ r. fits r word) rows) (filter (λ r. fits r word) rows))) ≡ true) [
      | true ↦ finds-longer (Some row) (owner rows word) part.0 more
      | false ↦ more
    ]

pub looks_in_append : {K : Type 0} (xs ys : List (List (Row K))) (word : List ℕ) → looks_in (xs ++ ys) word ≡ looks_in xs word + looks_in ys word
looks_in_append [] ys word = omega arith
looks_in_append (x ∷ xs) ys word = omega (arith, looks_in_append xs ys word)

-- ---- any number of tables, member by member

module _ {S K : Type 0} (tables : S → List (List (Row K))) (members : List S) (i : ℕ) (member : S) (below : i < length members) (is : member ≡ get_or members i member) where
  left : drop i members ≡ member ∷ drop (i + 1) members
  left = drop_more members i member below ∙ ap (λ m. m ∷ drop (i + 1) members) (sym is)

  pub owner_left : (word : List ℕ) → owner_in (flat_map tables (drop i members)) word ≡ longer (owner_in (tables member) word) (owner_in (flat_map tables (drop (i + 1) members)) word)
  owner_left word = ap (λ ms. owner_in (flat_map tables ms) word) left ∙ owner_in_append (tables member) (flat_map tables (drop (i + 1) members)) word

  pub looks_left : (word : List ℕ) → looks_in (flat_map tables (drop i members)) word ≡ looks_in (tables member) word + looks_in (flat_map tables (drop (i + 1) members)) word
  looks_left word = ap (λ ms. looks_in (flat_map tables ms) word) left ∙ looks_in_append (tables member) (flat_map tables (drop (i + 1) members)) word
