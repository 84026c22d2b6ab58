-- Words that a NUL ends each.
use Rattle.std.proofs.Common.{◌≡◌, ℕ, ◌==◌, ◌||◌, Bool, true, false, List, [], ◌∷◌, ◌++◌, refl, append_assoc}
use Rattle.std.specs.List.{flat_map}
use Rattle.scl_explain.specs.CommandTexts.{ended_by_nul}
use Rattle.scl_explain.specs.Laws.{EndedWordsAreReadBack, EndedWordsAreOne}
use Rattle.scl_explain.specs.Nuls.{holds_nul, some_hold_nul, AreEndedByNul}
use Rattle.scl_explain.specs.Nuls.AreEndedByNul.{none, one}

or_left : (a b : Bool) → (a || b) ≡ false → a ≡ false
or_left true b h = cc
or_left false b h = refl

or_right : (a b : Bool) → (a || b) ≡ false → b ≡ false
or_right true b h = cc
or_right false b h = h

read_back : (words : List (List ℕ)) → some_hold_nul words ≡ false → AreEndedByNul (flat_map ended_by_nul words) words
read_back [] h = none
read_back (word ∷ words) h =
    rw (append_assoc word (0 ∷ []) (flat_map ended_by_nul words))
    (one word (flat_map ended_by_nul words) words (or_left (holds_nul word) (some_hold_nul words) h) (read_back words (or_right (holds_nul word) (some_hold_nul words) h)))

pub ended_words_are_read_back : EndedWordsAreReadBack
ended_words_are_read_back = read_back

-- two words before a NUL are one
record AreOne (word other text rest : List ℕ) : Type 0 where
  same_word : word ≡ other
  same_text : text ≡ rest

one_word : (word other text rest : List ℕ) → holds_nul word ≡ false → holds_nul other ≡ false → word ++ 0 ∷ text ≡ other ++ 0 ∷ rest → AreOne word other text rest
one_word [] [] text rest h k e = record { same_word = refl; same_text = cc }
one_word [] (d ∷ other) text rest h k e = absurd (let z : 0 ≡ d = cc in let n = or_left (d == 0) (holds_nul other) k in cc)
one_word (c ∷ word) [] text rest h k e = absurd (let z : c ≡ 0 = cc in let n = or_left (c == 0) (holds_nul word) h in cc)
one_word (c ∷ word) (d ∷ other) text rest h k e =
    let z : c ≡ d = cc in
    let t : word ++ 0 ∷ text ≡ other ++ 0 ∷ rest = cc in
    let r = one_word word other text rest (or_right (c == 0) (holds_nul word) h) (or_right (d == 0) (holds_nul other) k) t in
    record { same_word = rw (z, r.same_word) refl; same_text = r.same_text }

one_list : (text rest : List ℕ) (words others : List (List ℕ)) → AreEndedByNul text words → AreEndedByNul rest others → text ≡ rest → words ≡ others
one_list _ _ _ _ none none e = refl
one_list _ _ _ _ none (one [] u vs k q) e = absurd (cc)
one_list _ _ _ _ none (one (d ∷ v) u vs k q) e = absurd (cc)
one_list _ _ _ _ (one [] t ws h p) none e = absurd (cc)
one_list _ _ _ _ (one (c ∷ w) t ws h p) none e = absurd (cc)
one_list _ _ _ _ (one w t ws h p) (one v u vs k q) e =
    let r = one_word w v t u h k e in
    let s = one_list t u ws vs p q r.same_text in
    rw (r.same_word, s) refl

pub ended_words_are_one : EndedWordsAreOne
ended_words_are_one = λ text words others p q. one_list text text words others p q refl

pub ruleset nul_laws = (ended_words_are_read_back, ended_words_are_one)
