-- Bytes split at a mark, and lines.
use Rattle.std.proofs.Common.{◌≡◌, ℕ, ◌+◌, ◌-◌, ◌<◌, true, false, cond, List, [], ◌∷◌, ◌++◌, Option, Some, None, refl, ap, sym, ◌∙◌, nat_eq, length, take, drop, get_or, arith, drop-cons, take-append-drop, length-drop, take_all, add-one, inl, inr, eq-eqb}
use Rattle.std.specs.List.{onto_first}
use Rattle.std.proofs.lemmas.List.{take_more}
use Rattle.std.proofs.lemmas.Bool.Decides.{eqb_tells}
use Rattle.scl_description.specs.Lines.{cut_at, with_first, lines_of}

abbrev parts : List ℕ → List ℕ → Option (List ℕ × List ℕ)
parts a b = Some (a, b)

none_first : (b : ℕ) (o : Option (List ℕ × List ℕ)) → with_first b o ≡ None → o ≡ None
none_first b None h = refl
none_first b (Some p) h = cc

-- a mark after bytes without one
pub cut_at-mark : (m : ℕ) (xs ys : List ℕ) → cut_at m xs ≡ None → cut_at m (xs ++ m ∷ ys) ≡ parts xs ys
cut_at-mark m [] ys h = rw (eq-eqb m m refl) refl
cut_at-mark m (x ∷ xs) ys h =
    elim (nat_eq x m) as (λ v. cond v (parts [] xs) (with_first x (cut_at m xs)) ≡ None → cond v (parts [] (xs ++ m ∷ ys)) (with_first x (cut_at m (xs ++ m ∷ ys))) ≡ parts (x ∷ xs) ys)
    [ true ↦ λ e. cc | false ↦ λ e. ap (with_first x) (cut_at-mark m xs ys (none_first x _ e)) ] h

-- another byte after bytes without a mark
pub cut_at-other : (m : ℕ) (xs : List ℕ) (b : ℕ) → cut_at m xs ≡ None → nat_eq b m ≡ false → cut_at m (xs ++ b ∷ []) ≡ None
cut_at-other m [] b h k = rw k refl
cut_at-other m (x ∷ xs) b h k =
    elim (nat_eq x m) as (λ v. cond v (parts [] xs) (with_first x (cut_at m xs)) ≡ None → cond v (parts [] (xs ++ b ∷ [])) (with_first x (cut_at m (xs ++ b ∷ []))) ≡ None)
    [ true ↦ λ e. cc | false ↦ λ e. ap (with_first x) (cut_at-other m xs b (none_first x _ e) k) ] h

-- bytes without a mark after bytes without one
pub cut_at-append : (m : ℕ) (xs ys : List ℕ) → cut_at m xs ≡ None → cut_at m ys ≡ None → cut_at m (xs ++ ys) ≡ None
cut_at-append m [] ys h k = k
cut_at-append m (x ∷ xs) ys h k =
    elim (nat_eq x m) as (λ v. cond v (parts [] xs) (with_first x (cut_at m xs)) ≡ None → cond v (parts [] (xs ++ ys)) (with_first x (cut_at m (xs ++ ys))) ≡ None)
    [ true ↦ λ e. cc | false ↦ λ e. ap (with_first x) (cut_at-append m xs ys (none_first x _ e) k) ] h

-- a mark with no mark before it
pub cut_at-place : (m : ℕ) (bs : List ℕ) (i : ℕ) → i < length bs → get_or bs i 0 ≡ m → cut_at m (take i bs) ≡ None → cut_at m bs ≡ parts (take i bs) (take (length bs - (i + 1)) (drop (i + 1) bs))
cut_at-place m bs i h e k =
    let all : take (length bs - (i + 1)) (drop (i + 1) bs) ≡ drop (i + 1) bs = take_all _ _ (omega (arith, length-drop (i + 1) bs)) in
    let whole : take i bs ++ m ∷ drop (i + 1) bs ≡ bs =
    ap (λ x. take i bs ++ x ∷ drop (i + 1) bs) (sym e) ∙ ap (λ xs. take i bs ++ xs) (rw (add-one, drop-cons bs i 0) refl) ∙ take-append-drop i bs in
    ap (cut_at m) (sym whole) ∙ cut_at-mark m (take i bs) (drop (i + 1) bs) k ∙ ap (parts (take i bs)) (sym all)

pub cut_at-further : (m : ℕ) (bs : List ℕ) (i : ℕ) → i < length bs → (get_or bs i 0 ≡ m → ⊥) → cut_at m (take i bs) ≡ None → cut_at m (take (i + 1) bs) ≡ None
cut_at-further m bs i h e k =
    ap (cut_at m) (take_more bs i 0 h) ∙ cut_at-other m (take i bs) (get_or bs i 0) k (elim (eqb_tells (get_or bs i 0) m) [ inl p ↦ absurd (e p.1) | inr p ↦ p.0 ])

abbrev part_before : Option (List ℕ × List ℕ) → List ℕ
part_before None = []
part_before (Some p) = p.0

abbrev part_behind : Option (List ℕ × List ℕ) → List ℕ
part_behind None = []
part_behind (Some p) = p.1

line_behind : (b : ℕ) (bs line rest : List ℕ) (o : Option (List ℕ × List ℕ)) → cut_at 10 bs ≡ o → ((first last : List ℕ) → cut_at 10 bs ≡ parts first last → lines_of bs ≡ first ∷ lines_of last) → with_first b o ≡ parts line rest → onto_first b (lines_of bs) ≡ line ∷ lines_of rest
line_behind b bs line rest None is ih e = cc
line_behind b bs line rest (Some p) is ih e =
    let front : b ∷ p.0 ≡ line = ap part_before e in
    let back : p.1 ≡ rest = ap part_behind e in
    ap (onto_first b) (ih p.0 p.1 is) ∙ ap (λ l. l ∷ lines_of p.1) front ∙ ap (λ r. line ∷ lines_of r) back

-- the first line is what comes before the first LF
pub lines_of-cut : (bs line rest : List ℕ) → cut_at 10 bs ≡ parts line rest → lines_of bs ≡ line ∷ lines_of rest
lines_of-cut [] line rest h = cc
lines_of-cut (b ∷ bs) line rest h =
    elim (nat_eq b 10) as (λ v. cond v (parts [] bs) (with_first b (cut_at 10 bs)) ≡ parts line rest → cond v ([] ∷ lines_of bs) (onto_first b (lines_of bs)) ≡ line ∷ lines_of rest)
    [ true ↦ λ e. ap (λ o. part_before o ∷ lines_of (part_behind o)) e | false ↦ λ e. line_behind b bs line rest (cut_at 10 bs) refl (λ first last. lines_of-cut bs first last) e ] h

-- bytes without an LF are a line
pub lines_of-last : (b : ℕ) (bs : List ℕ) → cut_at 10 (b ∷ bs) ≡ None → lines_of (b ∷ bs) ≡ (b ∷ bs) ∷ []
lines_of-last b [] h =
    elim (nat_eq b 10) as (λ v. cond v (parts [] []) (with_first b None) ≡ None → cond v ([] ∷ []) ((b ∷ []) ∷ []) ≡ (b ∷ []) ∷ []) [ true ↦ λ e. cc | false ↦ λ e. refl ] h
lines_of-last b (c ∷ cs) h =
    elim (nat_eq b 10) as (λ v. cond v (parts [] (c ∷ cs)) (with_first b (cut_at 10 (c ∷ cs))) ≡ None → cond v ([] ∷ lines_of (c ∷ cs)) (onto_first b (lines_of (c ∷ cs))) ≡ (b ∷ c ∷ cs) ∷ [])
    [ true ↦ λ e. cc | false ↦ λ e. ap (onto_first b) (lines_of-last c cs (none_first b _ e)) ] h

pub lines_of-only : (bs : List ℕ) → 0 < length bs → cut_at 10 bs ≡ None → lines_of bs ≡ bs ∷ []
lines_of-only [] h e = absurd (omega arith)
lines_of-only (b ∷ bs) h e = lines_of-last b bs e

-- what follows a mark is shorter
pub cut_at-shorter : (m : ℕ) (bs : List ℕ) (p : List ℕ × List ℕ) → cut_at m bs ≡ Some p → length p.1 < length bs
cut_at-shorter m [] p h = cc
cut_at-shorter m (b ∷ bs) p h =
    elim (nat_eq b m) as (λ v. cond v (parts [] bs) (with_first b (cut_at m bs)) ≡ Some p → length p.1 < length (b ∷ bs))
    [ true ↦ λ e. let is : bs ≡ p.1 = ap part_behind e in omega (arith, ap length is) | false ↦ λ e. behind (cut_at m bs) refl (λ q. cut_at-shorter m bs q) e ] h where
      behind : (o : Option (List ℕ × List ℕ)) → cut_at m bs ≡ o → ((q : List ℕ × List ℕ) → cut_at m bs ≡ Some q → length q.1 < length bs) → with_first b o ≡ Some p → length p.1 < length (b ∷ bs)
      behind None is ih e = cc
      behind (Some q) is ih e = let same : q.1 ≡ p.1 = ap part_behind e in omega (arith, ih q is, ap length same)
