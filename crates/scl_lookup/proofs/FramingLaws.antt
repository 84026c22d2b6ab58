-- Framed texts are one only if all their pieces are.
use Rattle.std.proofs.Common.{◌≡◌, ℕ, ◌<◌, ◌^◌, ◌==◌, not, true, false, Bool, List, [], ◌∷◌, ◌++◌, length, take, drop, refl, sym, ap, subst, ◌∙◌, append_assoc, arith}
use Rattle.std.proofs.Math.Seq.{drop-append_seam, take-append_seam}
use Rattle.std.proofs.lemmas.Bool.{and_parts, and_from, ne_eqb}
use Rattle.std.proofs.lemmas.Fmt.{decimal_is_IsNumeral, decimal_injective}
use Rattle.std.specs.Char.{digit_value}
use Rattle.std.specs.Fmt.{decimal}
use Rattle.std.specs.List.{list_all}
use Rattle.std.specs.Str.Parse.{AllDigits}
use Rattle.scl_lookup.specs.Framing.{framed, FramingDecides}

abbrev has_no_colon : List ℕ → Bool
has_no_colon text = list_all (λ byte. not (byte == 58)) text

no_digit : (c : ℕ) → digit_value c < 10 → (c == 58) ≡ false
no_digit c h = ne_eqb c 58 (λ e. let P : ℕ → Type 0 = λ x. digit_value x < 10 in let k : digit_value 58 < 10 = subst P e h in absurd (omega arith))

digits_none : (ds : List ℕ) → AllDigits 10 ds → has_no_colon ds ≡ true
digits_none [] h = refl
digits_none (c ∷ ds) h = and_from (not (c == 58)) (has_no_colon ds) (ap not (no_digit c h.0)) (digits_none ds h.1)

decimal_none : (n : ℕ) → n < 2 ^ 64 → has_no_colon (decimal n) ≡ true
decimal_none n h = digits_none (decimal n) ((decimal_is_IsNumeral n h).0.1)

abbrev head_of : List ℕ → ℕ
head_of [] = 0
head_of (x ∷ xs) = x

abbrev tail_of : List ℕ → List ℕ
tail_of [] = []
tail_of (x ∷ xs) = xs

abbrev is_empty : List ℕ → Bool
is_empty [] = true
is_empty (x ∷ xs) = false

-- what stands before the first colon, and after it
record SameCut (xs ys s t : List ℕ) : Type 0 where
  pub before : xs ≡ ys
  pub after : s ≡ t

no_colon_here : (c : ℕ) (cs : List ℕ) → has_no_colon (c ∷ cs) ≡ true → c ≡ 58 → false ≡ true
no_colon_here c cs h e = let P : ℕ → Type 0 = λ x. has_no_colon (x ∷ cs) ≡ true in subst P e h

first_colon : (xs ys s t : List ℕ) → has_no_colon xs ≡ true → has_no_colon ys ≡ true → xs ++ 58 ∷ s ≡ ys ++ 58 ∷ t → SameCut xs ys s t
first_colon [] [] s t h k e = record { before = refl; after = ap tail_of e }
first_colon [] (y ∷ ys) s t h k e = absurd (let no : false ≡ true = no_colon_here y ys k (sym (ap head_of e)) in cc)
first_colon (x ∷ xs) [] s t h k e = absurd (let no : false ≡ true = no_colon_here x xs h (ap head_of e) in cc)
first_colon (x ∷ xs) (y ∷ ys) s t h k e =
    let both = and_parts (not (x == 58)) (has_no_colon xs) h in
    let others = and_parts (not (y == 58)) (has_no_colon ys) k in
    let rest : SameCut xs ys s t = first_colon xs ys s t both.1 others.1 (ap tail_of e) in
    record {
      before = ap (λ (z : ℕ). z ∷ xs) (ap head_of e) ∙ ap (λ (zs : List ℕ). y ∷ zs) rest.before;
      after = rest.after;
    }

same_front : (p q s t : List ℕ) → length p ≡ length q → p ++ s ≡ q ++ t → SameCut p q s t
same_front p q s t n e = record {
  before = sym (take-append_seam p s) ∙ ap (λ (k : ℕ). take k (p ++ s)) n ∙ ap (take (length q)) e ∙ take-append_seam q t;
  after = sym (drop-append_seam p s) ∙ ap (λ (k : ℕ). drop k (p ++ s)) n ∙ ap (drop (length q)) e ∙ drop-append_seam q t;
}

framed_first : (p : List ℕ) (ps : List (List ℕ)) → framed (p ∷ ps) ≡ decimal (length p) ++ 58 ∷ (p ++ framed ps)
framed_first p ps = append_assoc (decimal (length p)) (58 ∷ p) (framed ps)

not_empty : (xs s : List ℕ) → is_empty (xs ++ 58 ∷ s) ≡ false
not_empty [] s = refl
not_empty (x ∷ xs) s = refl

one_by_one : (p q : List ℕ) (ps qs : List (List ℕ)) → length p < 2 ^ 64 → length q < 2 ^ 64 → framed (p ∷ ps) ≡ framed (q ∷ qs) → SameCut p q (framed ps) (framed qs)
one_by_one p q ps qs h k e =
    let cut : SameCut (decimal (length p)) (decimal (length q)) (p ++ framed ps) (q ++ framed qs) =
    first_colon (decimal (length p)) (decimal (length q)) (p ++ framed ps) (q ++ framed qs) (decimal_none (length p) h) (decimal_none (length q) k) (sym (framed_first p ps) ∙ e ∙ framed_first q qs) in
    same_front p q (framed ps) (framed qs) (decimal_injective (length p) (length q) h k cut.before) cut.after

pub framing_decides : FramingDecides
framing_decides [] [] h k e = refl
framing_decides [] (q ∷ qs) h k e = absurd (let no : true ≡ false = ap is_empty (e ∙ framed_first q qs) ∙ not_empty (decimal (length q)) (q ++ framed qs) in cc)
framing_decides (p ∷ ps) [] h k e = absurd (let no : false ≡ true = sym (not_empty (decimal (length p)) (p ++ framed ps)) ∙ ap is_empty (sym (framed_first p ps) ∙ e) in cc)
framing_decides (p ∷ ps) (q ∷ qs) h k e =
    let cut : SameCut p q (framed ps) (framed qs) = one_by_one p q ps qs h.0 k.0 e in
    ap (λ (x : List ℕ). x ∷ ps) cut.before ∙ ap (λ (xs : List (List ℕ)). q ∷ xs) (framing_decides ps qs h.1 k.1 cut.after)
