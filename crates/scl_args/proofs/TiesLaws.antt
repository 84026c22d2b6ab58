-- Tables in another order.
use Rattle.std.proofs.Common.{◌≡◌, ℕ, ◌+◌, ◌<◌, true, false, ◌⊎◌, inl, inr, zero, suc, All, List, [], ◌∷◌, ◌++◌, length, drop, take, slice_index_or, Option, None, Some, MatchOption, IsPermutation, refl, sym, ap, ◌∙◌, arith}
use Rattle.std.proofs.lemmas.List.{append-nil, take_at}
use Rattle.std.proofs.lemmas.List.Concat.{flat_map-append}
use Rattle.std.proofs.lemmas.List.Sorted.{All-permutation, IsPermutation-sym}
use Rattle.std.specs.List.{flat_map}
use Rattle.std.specs.Option.{option_map}
use Rattle.scl_values.specs.Row.{Row, fits}
use Rattle.scl_values.specs.Tables.{longer, owner, owner_in, all_rows}
use Rattle.scl_tables.specs.Probes.{looks_in}
use Rattle.scl_values.specs.Each.{Has}
use Rattle.scl_args.specs.Laws.{IsLongestFit, ShareNoFlag}
use Rattle.scl_tables.proofs.PrefixLemmas.{fits-split}
use Rattle.scl_tables.proofs.TablesLemmas.{owner_in_append, looks_in_append}
use Rattle.scl_args.proofs.OwnerLaws.{owner-longest, owner_in-is}

-- ---- one member more

pub tables_of_two : {S A : Type 0} (tables_of : S → List A) (first second : S) → flat_map tables_of (first ∷ second ∷ []) ≡ tables_of first ++ tables_of second
tables_of_two tables_of first second = ap (λ rest. tables_of first ++ rest) (append-nil (tables_of second))

module _ {S K : Type 0} (tables_of : S → List (List (Row K))) (members : List S) (member : S) where
  after : flat_map tables_of (members ++ member ∷ []) ≡ flat_map tables_of members ++ tables_of member
  after = flat_map-append tables_of members (member ∷ []) ∙ ap (λ rest. flat_map tables_of members ++ rest) (append-nil (tables_of member))

  pub last_owner : (word : List ℕ) → owner_in (flat_map tables_of (members ++ member ∷ [])) word ≡ longer (owner_in (flat_map tables_of members) word) (owner_in (tables_of member) word)
  last_owner word = ap (λ tables. owner_in tables word) after ∙ owner_in_append (flat_map tables_of members) (tables_of member) word

  pub last_looks : (word : List ℕ) → looks_in (flat_map tables_of (members ++ member ∷ [])) word ≡ looks_in (flat_map tables_of members) word + looks_in (tables_of member) word
  last_looks word = ap (λ tables. looks_in tables word) after ∙ looks_in_append (flat_map tables_of members) (tables_of member) word

-- ---- tables in another order have the same rows

module _ {A : Type 0} (x : A) where
  has-left : (xs ys : List A) → Has xs x → Has (xs ++ ys) x
  has-left [] ys h = absurd h
  has-left (y ∷ xs) ys (inl e) = inl e
  has-left (y ∷ xs) ys (inr h) = inr (has-left xs ys h)

  has-right : (xs ys : List A) → Has ys x → Has (xs ++ ys) x
  has-right [] ys h = h
  has-right (y ∷ xs) ys h = inr (has-right xs ys h)

  has-either : (xs ys : List A) → Has (xs ++ ys) x → Has xs x ⊎ Has ys x
  has-either [] ys h = inr h
  has-either (y ∷ xs) ys (inl e) = inl (inl e)
  has-either (y ∷ xs) ys (inr h) = elim (has-either xs ys h) [ inl p ↦ inl (inr p) | inr q ↦ inr q ]

module _ {K : Type 0} (row : Row K) where
  row_of_table : (tables : List (List (Row K))) (k : ℕ) (d : List (Row K)) → k < length tables → Has (slice_index_or tables k d) row → Has (all_rows tables) row
  row_of_table [] k d l h = absurd (omega arith)
  row_of_table (rows ∷ tables) zero d l h = has-left row rows (all_rows tables) h
  row_of_table (rows ∷ tables) (suc k) d l h = has-right row rows (all_rows tables) (row_of_table tables k d (omega arith) h)

  table_of_row : (P : Type 0) (tables : List (List (Row K))) → All (λ rows. Has rows row → P) tables → Has (all_rows tables) row → P
  table_of_row P [] all h = absurd h
  table_of_row P (rows ∷ tables) all h =
      elim (has-either row rows (all_rows tables) h) [
        | inl p ↦ all 0 rows (omega arith) p
        | inr q ↦ table_of_row P tables (λ k d l. all (suc k) d (omega arith)) q
      ]

  reordered : (tables others : List (List (Row K))) → IsPermutation tables others → Has (all_rows tables) row → Has (all_rows others) row
  reordered tables others p =
      let P : List (Row K) → Type 0 = λ rows. Has rows row → Has (all_rows others) row in
      table_of_row (Has (all_rows others) row) tables (All-permutation P others tables (IsPermutation-sym tables others p) (row_of_table others))

-- ---- the longest fits of the same rows

flag-is : {K : Type 0} (row : Row K) (word : List ℕ) → fits row word ≡ true → row.flag ≡ take (length row.flag) word
flag-is row word f =
    let n : ℕ = length row.flag in
    sym (take_at row.flag (drop n word) n refl) ∙ ap (take n) (sym (fits-split row word f).0)

one_flag : {K : Type 0} (row other : Row K) (word : List ℕ) → fits row word ≡ true → fits other word ≡ true → length row.flag ≡ length other.flag → row.flag ≡ other.flag
one_flag row other word f g e = flag-is row word f ∙ ap (λ n. take n word) e ∙ sym (flag-is other word g)

abbrev LongestIfAny : {K : Type 0} → List (Row K) → List ℕ → Option (Row K) → Type 0
LongestIfAny {K = K} rows word o = MatchOption o ((row : Row K) → Has rows row → fits row word ≡ false) (IsLongestFit rows word)

module _ {K : Type 0} (tables others : List (List (Row K))) (word : List ℕ) (to : (row : Row K) → Has (all_rows tables) row → Has (all_rows others) row) (from : (row : Row K) → Has (all_rows others) row → Has (all_rows tables) row) where
  abbrev SameOwner : Option (Row K) → Option (Row K) → Type 0
  SameOwner o p = (option_map (λ row. row.flag) o ≡ option_map (λ row. row.flag) p) × (ShareNoFlag tables → o ≡ p)

  compared : (o p : Option (Row K)) → LongestIfAny (all_rows tables) word o → LongestIfAny (all_rows others) word p → SameOwner o p
  compared None None a b = (refl, λ _. refl)
  compared None (Some other) a b = absurd (let no : true ≡ false = sym b.fits_word ∙ a other (from other b.is_row) in cc)
  compared (Some row) None a b = absurd (let no : true ≡ false = sym a.fits_word ∙ b row (to row a.is_row) in cc)
  compared (Some row) (Some other) a b =
      let most = b.none_longer row (to row a.is_row) a.fits_word in
      let least = a.none_longer other (from other b.is_row) b.fits_word in
      let flags : row.flag ≡ other.flag = one_flag row other word a.fits_word b.fits_word (omega (arith, most, least)) in
      (ap Some flags, λ once. ap Some (once row other a.is_row (from other b.is_row) flags))

  same_owner : SameOwner (owner_in tables word) (owner_in others word)
  same_owner = rw (owner_in-is tables word, owner_in-is others word) (compared (owner (all_rows tables) word) (owner (all_rows others) word) (owner-longest (all_rows tables) word) (owner-longest (all_rows others) word))

pub order_counts_on_ties : {K : Type 0} (tables others : List (List (Row K))) (word : List ℕ) → IsPermutation tables others →
    (option_map (λ row. row.flag) (owner_in tables word) ≡ option_map (λ row. row.flag) (owner_in others word)) × (ShareNoFlag tables → owner_in tables word ≡ owner_in others word)
order_counts_on_ties tables others word p = same_owner tables others word (λ row. reordered row tables others p) (λ row. reordered row others tables (IsPermutation-sym tables others p))
