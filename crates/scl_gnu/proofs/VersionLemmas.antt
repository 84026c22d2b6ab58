-- How a version's text is cut: at spaces, and before the quotes at its end.
use Rattle.std.proofs.Common.{◌≡◌, ◌≢◌, ℕ, suc, ◌+◌, ◌-◌, ◌<◌, true, false, List, [], ◌∷◌, ◌++◌, None, Some, length, take, drop, get_or, refl, sym, ap, ◌∙◌, arith, inl, inr}
use Rattle.std.proofs.lemmas.Bool.{cases_Bool}
use Rattle.std.proofs.lemmas.List.{length-append, reverse-append, take-append-le, take_all, take_more}
use Rattle.std.proofs.lemmas.List.Sums.{suffix_len_is}
use Rattle.std.proofs.Math.Seq.{take-length}
use Rattle.std.specs.List.{after_first, before_first, find, onto_first, position_or_len, prefix_len, slice_split, suffix_len}
use Rattle.scl_gnu.specs.Versions.{has_dot, is_quote, is_space, without_quotes}

split_none : (bs : List ℕ) → position_or_len is_space bs ≡ length bs → slice_split is_space bs ≡ bs ∷ []
split_none [] e = refl
split_none (b ∷ bs) e = elim (cases_Bool (is_space b)) [
  | inl space ↦ absurd (omega (arith, rw space at e))
  | inr other ↦ rw (other, split_none bs (omega (arith, rw other at e))) refl
]

one_more : (n : ℕ) → suc n + 1 ≡ suc (n + 1)
one_more n = omega arith

split_first : (bs : List ℕ) → position_or_len is_space bs < length bs → slice_split is_space bs ≡ before_first is_space bs ∷ slice_split is_space (after_first is_space bs)
split_first [] h = absurd (omega (arith, h))
split_first (b ∷ bs) h = elim (cases_Bool (is_space b)) [
  | inl space ↦ rw space refl
  | inr other ↦
      let next : position_or_len is_space (b ∷ bs) ≡ suc (position_or_len is_space bs) = rw other (omega arith) in
      let front : before_first is_space (b ∷ bs) ≡ b ∷ before_first is_space bs = ap (λ n. take n (b ∷ bs)) next in
      let back : after_first is_space (b ∷ bs) ≡ after_first is_space bs =
      ap (λ n. drop (n + 1) (b ∷ bs)) next ∙ ap (λ n. drop n (b ∷ bs)) (one_more (position_or_len is_space bs)) in
      let cut : slice_split is_space (b ∷ bs) ≡ onto_first b (slice_split is_space bs) = rw other refl in
      cut ∙ ap (onto_first b) (split_first bs (omega (arith, rw other at h)))
      ∙ ap (λ part. part ∷ slice_split is_space (after_first is_space bs)) (sym front)
      ∙ ap (λ rest. before_first is_space (b ∷ bs) ∷ slice_split is_space rest) (sym back)
]

module _ (rest : List ℕ) where
  -- the part that is searched for, if a first part is cut off
  module _ (part behind : List ℕ) (cut : position_or_len is_space rest < length rest) (is_part : part ≡ before_first is_space rest) where
    pub part_found : has_dot part ≡ true → Some part ≡ find has_dot (slice_split is_space rest)
    part_found dot = rw (split_first rest cut, sym is_part, dot) refl

    pub part_passed : behind ≡ after_first is_space rest → has_dot part ≡ false → find has_dot (slice_split is_space behind) ≡ find has_dot (slice_split is_space rest)
    part_passed is_behind no_dot = rw (split_first rest cut, sym is_part, no_dot, sym is_behind) refl

  -- the same, if there is none
  module _ (whole : position_or_len is_space rest ≡ length rest) where
    pub last_found : has_dot rest ≡ true → Some rest ≡ find has_dot (slice_split is_space rest)
    last_found dot = rw (split_none rest whole, dot) refl

    pub last_passed : has_dot rest ≡ false → None ≡ find has_dot (slice_split is_space rest)
    last_passed no_dot = rw (split_none rest whole, no_dot) refl

pub quote_goes : (front : List ℕ) → without_quotes (front ++ 34 ∷ []) ≡ without_quotes front
quote_goes front =
    let whole = front ++ 34 ∷ [] in
    let more : suffix_len is_quote whole ≡ 1 + suffix_len is_quote front = ap (prefix_len is_quote) (reverse-append front (34 ∷ [])) in
    let same : length whole - suffix_len is_quote whole ≡ length front - suffix_len is_quote front = omega (arith, more, length-append front (34 ∷ [])) in
    ap (λ n. take n whole) same ∙ take-append-le (length front - suffix_len is_quote front) front (34 ∷ []) (omega arith)

is-quote : (b : ℕ) → is_quote b ≡ true → b ≡ 34
is-quote b quote = grind (arith, quote)

ends-quoted : (bs : List ℕ) → 0 < length bs → is_quote (get_or bs (length bs - 1) 0) ≡ true → bs ≡ take (length bs - 1) bs ++ 34 ∷ []
ends-quoted bs some quote =
    let on : length bs ≡ length bs - 1 + 1 = omega arith in
    sym (take-length bs) ∙ ap (λ n. take n bs) on ∙ take_more bs (length bs - 1) 0 (omega arith)
    ∙ ap (λ b. take (length bs - 1) bs ++ b ∷ []) (is-quote (get_or bs (length bs - 1) 0) quote)

pub nothing_goes : (bs : List ℕ) → ((front : List ℕ) → bs ≢ front ++ 34 ∷ []) → without_quotes bs ≡ bs
nothing_goes bs last =
    let stops : 0 < length bs → is_quote (get_or bs (length bs - 1) 0) ≡ false = λ some. elim (cases_Bool (is_quote (get_or bs (length bs - 1) 0))) [
      | inl quote ↦ absurd (last (take (length bs - 1) bs) (ends-quoted bs some quote))
      | inr other ↦ other
    ] in
    let none : suffix_len is_quote bs ≡ length bs - length bs = suffix_len_is is_quote bs (length bs) 0 (omega arith) (λ k from to. absurd (omega (arith, from, to))) stops in
    take_all (length bs - suffix_len is_quote bs) bs (omega (arith, none))
