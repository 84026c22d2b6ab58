-- A text cut at the first byte that passes a test.
use Rattle.std.proofs.Common.{◌≡◌, ℕ, ◌+◌, ◌<◌, Bool, true, false, List, [], ◌∷◌, ◌++◌, length, take, drop, get_or, refl, sym, ap, ◌∙◌, arith, length-take-le, get_or-take}
use Rattle.std.proofs.lemmas.List.{take-append-drop, drop_more}
use Rattle.std.proofs.lemmas.List.Elements.{All-from_get_or}
use Rattle.std.proofs.lemmas.List.Splits.{slice_split_at, slice_split_none}
use Rattle.std.specs.List.{slice_split}

-- no byte before a place passes
abbrev NoneBelow : (ℕ → Bool) → List ℕ → ℕ → Type 0
NoneBelow test text at = (k : ℕ) → k < at → ¬ (test (get_or text k 0) ≡ true)

is_not : (b : Bool) → ¬ (b ≡ true) → b ≡ false
is_not true h = absurd (h refl)
is_not false h = refl

pub text_at : (text : List ℕ) (at : ℕ) → at < length text → text ≡ take at text ++ get_or text at 0 ∷ drop (at + 1) text
text_at text at h = sym (take-append-drop at text) ∙ ap (λ (rest : List ℕ). take at text ++ rest) (drop_more text at 0 h)

pub parts_at : (test : ℕ → Bool) (text : List ℕ) (at : ℕ) → at < length text → test (get_or text at 0) ≡ true → NoneBelow test text at
    → slice_split test text ≡ take at text ∷ slice_split test (drop (at + 1) text)
parts_at test text at h here none =
    let long : length (take at text) ≡ at = length-take-le at text (omega (arith, h)) in
    ap (slice_split test) (text_at text at h)
    ∙ slice_split_at test (take at text) (get_or text at 0) (drop (at + 1) text)
    (All-from_get_or (λ byte. test byte ≡ false) (take at text) 0 (λ k low. ap test (get_or-take at text k 0 (omega (arith, low, long))) ∙ is_not (test (get_or text k 0)) (none k (omega (arith, low, long))))) here

pub parts_none : (test : ℕ → Bool) (text : List ℕ) → NoneBelow test text (length text) → slice_split test text ≡ text ∷ []
parts_none test text none = slice_split_none test text (All-from_get_or (λ byte. test byte ≡ false) text 0 (λ k low. is_not (test (get_or text k 0)) (none k low)))
