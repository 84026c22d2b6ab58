-- Texts cut at a byte, and the parts between such bytes.
use Rattle.std.proofs.Common.{◌≡◌, ℕ, ◌+◌, ◌<◌, ◌==◌, not, true, false, List, [], ◌∷◌, ◌++◌, length, take, drop, get_or, Option, None, Some, refl, sym, ap, subst, ◌∙◌, arith}
use Rattle.std.proofs.lemmas.List.{take-append-drop, drop_more, take_all, append_assoc}
use Rattle.std.proofs.lemmas.List.Folds.{list_all-append, list_all_more}
use Rattle.std.proofs.lemmas.List.Splits.{length-slice_split}
use Rattle.std.proofs.lemmas.Bool.{and_parts, not-true, eq-eqb}
use Rattle.std.specs.List.{last_or, join_with_byte, onto_first}
use Rattle.scl_base_dirs.specs.Cuts.{has_none, parts, last_part, IsCutAt}

pub is_cut : (mark : ℕ) (text : List ℕ) (at : ℕ) → at < length text → get_or text at 0 ≡ mark → has_none mark (take at text) ≡ true → IsCutAt mark text (take at text) (drop (at + 1) text)
is_cut mark text at h e none = record {
  whole = sym (take-append-drop at text) ∙ ap (λ (rest : List ℕ). take at text ++ rest) (drop_more text at 0 h ∙ ap (λ (x : ℕ). x ∷ drop (at + 1) text) e);
  first = none;
}

pub none_more : (mark : ℕ) (text : List ℕ) (at : ℕ) → at < length text → (get_or text at 0 == mark) ≡ false → has_none mark (take at text) ≡ true → has_none mark (take (at + 1) text) ≡ true
none_more mark text at h e none = rw (list_all_more (λ (byte : ℕ). not (byte == mark)) text at 0 h, none, e) refl

pub none_all : (mark : ℕ) (text : List ℕ) (at : ℕ) → length text ≡ at → has_none mark (take at text) ≡ true → has_none mark text ≡ true
none_all mark text at h none = let P : List ℕ → Type 0 = λ t. has_none mark t ≡ true in subst P (take_all at text (omega arith)) none

pub ruleset cut_rules = (is_cut, none_more, none_all)

-- ---- parts

parts-yes : (mark : ℕ) (text : List ℕ) → parts mark (mark ∷ text) ≡ [] ∷ parts mark text
parts-yes mark text = rw (eq-eqb mark mark refl) refl

parts-no : (mark byte : ℕ) (text : List ℕ) → (byte == mark) ≡ false → parts mark (byte ∷ text) ≡ onto_first byte (parts mark text)
parts-no mark byte text h = rw h refl

pub parts_around : (mark : ℕ) (before after : List ℕ) → has_none mark before ≡ true → parts mark (before ++ mark ∷ after) ≡ before ∷ parts mark after
parts_around mark [] after h = parts-yes mark after
parts_around mark (byte ∷ before) after h =
    let both = and_parts (not (byte == mark)) (has_none mark before) h in
    parts-no mark byte (before ++ mark ∷ after) (not-true (byte == mark) both.0) ∙ ap (onto_first byte) (parts_around mark before after both.1)

pub parts_one : (mark : ℕ) (text : List ℕ) → has_none mark text ≡ true → parts mark text ≡ text ∷ []
parts_one mark [] h = refl
parts_one mark (byte ∷ text) h =
    let both = and_parts (not (byte == mark)) (has_none mark text) h in
    parts-no mark byte text (not-true (byte == mark) both.0) ∙ ap (onto_first byte) (parts_one mark text both.1)

pub parts_some : (mark : ℕ) (text : List ℕ) → 0 < length (parts mark text)
parts_some mark text = omega (arith, length-slice_split (λ (byte : ℕ). byte == mark) text)

pub none-append : (mark : ℕ) (xs ys : List ℕ) → has_none mark xs ≡ true → has_none mark ys ≡ true → has_none mark (xs ++ ys) ≡ true
none-append mark xs ys h k = rw (list_all-append (λ (byte : ℕ). not (byte == mark)) xs ys, h, k) refl

-- ---- joined

pub join_cons : (mark : ℕ) (x : List ℕ) (xs : List (List ℕ)) → 0 < length xs → join_with_byte mark (x ∷ xs) ≡ x ++ mark ∷ join_with_byte mark xs
join_cons mark x [] h = absurd (omega arith)
join_cons mark x (y ∷ xs) h = refl

last_cons : (o : Option (List ℕ)) (x : List ℕ) (xs : List (List ℕ)) → 0 < length xs → last_or o (x ∷ xs) ≡ last_or o xs
last_cons o x [] h = absurd (omega arith)
last_cons o x (y ∷ xs) h = refl

pub last_around : (mark : ℕ) (before after : List ℕ) → has_none mark before ≡ true → last_part mark (before ++ mark ∷ after) ≡ last_part mark after
last_around mark before after h = ap (last_or None) (parts_around mark before after h) ∙ last_cons None before (parts mark after) (parts_some mark after)

pub last_one : (mark : ℕ) (text : List ℕ) → has_none mark text ≡ true → Some text ≡ last_part mark text
last_one mark text h = sym (ap (last_or None) (parts_one mark text h))

-- the cut text, with more before it
pub cut_whole : (mark : ℕ) (text before after front : List ℕ) → IsCutAt mark text before after → front ++ text ≡ (front ++ before) ++ mark ∷ after
cut_whole mark text before after front cut = ap (λ (t : List ℕ). front ++ t) cut.whole ∙ sym (append_assoc front before (mark ∷ after))

-- the cut text, with more before and after it
pub cut_within : (mark : ℕ) (text before after front rest : List ℕ) → IsCutAt mark text before after → front ++ (text ++ rest) ≡ (front ++ before) ++ mark ∷ (after ++ rest)
cut_within mark text before after front rest cut = rw cut.whole (simp append_assoc)
