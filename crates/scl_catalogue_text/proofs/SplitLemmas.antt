-- Parts between marks, and words between blanks.
use Rattle.std.proofs.Common.{◌≡◌, ◌∙◌, ℕ, ◌+◌, ◌<◌, ◌==◌, Bool, true, false, not, ◌&&◌, ◌||◌, List, [], ◌∷◌, ◌++◌, filter, length, take, drop, get_or, refl, sym, ap, rules, tests, arith, length-take-le, get_or-take}
use Rattle.std.proofs.lemmas.Bool.{not-true}
use Rattle.std.proofs.lemmas.List.{append-nil, drop_more, take-append-drop}
use Rattle.std.proofs.lemmas.List.Elements.{All-from_get_or}
use Rattle.std.proofs.lemmas.List.Splits.{slice_split-cons_no, slice_split_at, slice_split_none}
use Rattle.std.specs.List.{list_all, list_any, onto_first, slice_split}
use Rattle.scl_catalogue_text.specs.Cutting.{behind_blanks, first_word, from_mark, is_word, other_words, parts, until_mark, words}
use Rattle.scl_catalogue_text.specs.Writable.{has_one}
use Rattle.scl_catalogue_text.specs.Written.{joined, lines_text, spaced}
use Rattle.scl_catalogue_text.proofs.TestLemmas.{and-left, and-right, both, lacks_mark}

-- bytes without the mark stand before the first part of what follows
pub parts-append : (m : ℕ) (w xs q : List ℕ) (ps : List (List ℕ)) → lacks_mark m w ≡ true → parts m xs ≡ q ∷ ps → parts m (w ++ xs) ≡ (w ++ q) ∷ ps
unfolding parts
parts-append m [] xs q ps h e = e
parts-append m (b ∷ w) xs q ps h e =
    let no : (b == m) ≡ false = not-true (b == m) (and-left (not (b == m)) (lacks_mark m w) h) in
    let rest : slice_split (λ c. c == m) (w ++ xs) ≡ (w ++ q) ∷ ps = parts-append m w xs q ps (and-right (not (b == m)) (lacks_mark m w) h) e in
    slice_split-cons_no (λ c. c == m) b (w ++ xs) no ∙ ap (onto_first b) rest

none-lacks : (m : ℕ) (w : List ℕ) → list_any (λ b. b == m) w ≡ false → lacks_mark m w ≡ true
none-lacks m [] h = refl
none-lacks m (b ∷ w) h = (elim (b == m) as (λ t. (t || list_any (λ c. c == m) w) ≡ false → (not t && lacks_mark m w) ≡ true) [
  | true ↦ (λ k. let no : true ≡ false = k in cc)
  | false ↦ (λ k. none-lacks m w k)
]) h

pub parts-one : (m : ℕ) (w : List ℕ) → lacks_mark m w ≡ true → parts m w ≡ w ∷ []
unfolding parts
parts-one m w h = let e : parts m (w ++ []) ≡ (w ++ []) ∷ [] = parts-append m w [] [] [] h refl in rw append-nil at e

same-mark : (m : ℕ) → (m == m) ≡ true
same-mark m = search (rules, tests)

pub parts-mark : (m : ℕ) (xs : List ℕ) → parts m (m ∷ xs) ≡ [] ∷ parts m xs
unfolding parts
parts-mark m xs = rw (same-mark m) refl

pub parts-next : (m : ℕ) (w xs : List ℕ) → lacks_mark m w ≡ true → parts m (w ++ m ∷ xs) ≡ w ∷ parts m xs
parts-next m w xs h = let e : parts m (w ++ m ∷ xs) ≡ (w ++ []) ∷ parts m xs = parts-append m w (m ∷ xs) [] (parts m xs) h (parts-mark m xs) in rw append-nil at e

pub one_part : (m : ℕ) (w : List ℕ) → list_any (λ b. b == m) w ≡ false → parts m w ≡ w ∷ []
one_part m w h = parts-one m w (none-lacks m w h)

parts-last : (m : ℕ) (w : List ℕ) → lacks_mark m w ≡ true → parts m (w ++ m ∷ []) ≡ w ∷ [] ∷ []
unfolding parts
parts-last m w h = parts-next m w [] h

-- the parts of a word whose last byte is the mark, and which has no other
pub star_last : (m : ℕ) (word w : List ℕ) (b : ℕ) → word ≡ w ++ b ∷ [] → b ≡ m → list_any (λ c. c == m) w ≡ false → parts m word ≡ w ∷ [] ∷ []
star_last m word w b e same h = rw (e, same) (parts-last m w (none-lacks m w h))

-- no byte before a place is the mark
abbrev NoneBelow : ℕ → List ℕ → ℕ → Type 0
NoneBelow m bs at = (k : ℕ) → k < at → ¬ ((get_or bs k 0 == m) ≡ true)

is-not : (b : Bool) → ¬ (b ≡ true) → b ≡ false
is-not true h = absurd (h refl)
is-not false h = refl

pub parts-at : (m : ℕ) (bs : List ℕ) (at : ℕ) → at < length bs → (get_or bs at 0 == m) ≡ true → NoneBelow m bs at → parts m bs ≡ take at bs ∷ parts m (drop (at + 1) bs)
unfolding parts
parts-at m bs at h here none =
    let long : length (take at bs) ≡ at = length-take-le at bs (omega (arith, h)) in
    let cut : bs ≡ take at bs ++ get_or bs at 0 ∷ drop (at + 1) bs = sym (take-append-drop at bs) ∙ ap (λ (rest : List ℕ). take at bs ++ rest) (drop_more bs at 0 h) in
    ap (slice_split (λ b. b == m)) cut
    ∙ slice_split_at (λ b. b == m) (take at bs) (get_or bs at 0) (drop (at + 1) bs)
    (All-from_get_or (λ b. (b == m) ≡ false) (take at bs) 0 (λ k low. ap (λ b. b == m) (get_or-take at bs k 0 (omega (arith, low, long))) ∙ is-not (get_or bs k 0 == m) (none k (omega (arith, low, long))))) here

pub parts-none : (m : ℕ) (bs : List ℕ) → NoneBelow m bs (length bs) → parts m bs ≡ bs ∷ []
unfolding parts
parts-none m bs none = slice_split_none (λ b. b == m) bs (All-from_get_or (λ b. (b == m) ≡ false) bs 0 (λ k low. is-not (get_or bs k 0 == m) (none k low)))

pub parts-joined : (m : ℕ) (p : List ℕ) (ps : List (List ℕ)) → list_all (lacks_mark m) (p ∷ ps) ≡ true → parts m (joined m (p ∷ ps)) ≡ p ∷ ps
parts-joined m p [] h = parts-one m p (and-left (lacks_mark m p) true h)
parts-joined m p (q ∷ ps) h =
    parts-next m p (joined m (q ∷ ps)) (and-left (lacks_mark m p) (list_all (lacks_mark m) (q ∷ ps)) h)
    ∙ ap (λ rest. p ∷ rest) (parts-joined m q ps (and-right (lacks_mark m p) (list_all (lacks_mark m) (q ∷ ps)) h))

pub parts-lines : (lines : List (List ℕ)) → list_all (lacks_mark 10) lines ≡ true → parts 10 (lines_text lines) ≡ lines ++ [] ∷ []
unfolding parts
parts-lines [] h = refl
parts-lines (line ∷ lines) h =
    parts-next 10 line (lines_text lines) (and-left (lacks_mark 10 line) (list_all (lacks_mark 10) lines) h)
    ∙ ap (λ rest. line ∷ rest) (parts-lines lines (and-right (lacks_mark 10 line) (list_all (lacks_mark 10) lines) h))

-- ---- words

-- something, and no blank
abbrev pub is_unbroken : List ℕ → Bool
is_unbroken bs = has_one bs && lacks_mark 32 bs

parts-spaced : (ws : List (List ℕ)) → list_all (lacks_mark 32) ws ≡ true → parts 32 (spaced ws) ≡ [] ∷ ws
unfolding parts
parts-spaced [] h = refl
parts-spaced (w ∷ ws) h =
    let rest : parts 32 (spaced ws) ≡ [] ∷ ws = parts-spaced ws (and-right (lacks_mark 32 w) (list_all (lacks_mark 32) ws) h) in
    let e : parts 32 (w ++ spaced ws) ≡ (w ++ []) ∷ ws = parts-append 32 w (spaced ws) [] ws (and-left (lacks_mark 32 w) (list_all (lacks_mark 32) ws) h) rest in
    ap (λ ps. [] ∷ ps) (rw append-nil at e)

unbroken-lacks : (ws : List (List ℕ)) → list_all is_unbroken ws ≡ true → list_all (lacks_mark 32) ws ≡ true
unbroken-lacks [] h = refl
unbroken-lacks (w ∷ ws) h =
    both (and-right (has_one w) (lacks_mark 32 w) (and-left (is_unbroken w) (list_all is_unbroken ws) h)) (unbroken-lacks ws (and-right (is_unbroken w) (list_all is_unbroken ws) h))

kept-words : (ws : List (List ℕ)) → list_all is_unbroken ws ≡ true → filter is_word ws ≡ ws
kept-words [] h = refl
kept-words ([] ∷ ws) h = let no : false ≡ true = h in cc
kept-words ((b ∷ w) ∷ ws) h = ap (λ rest. (b ∷ w) ∷ rest) (kept-words ws (and-right (is_unbroken (b ∷ w)) (list_all is_unbroken ws) h))

pub words-spaced : (ws : List (List ℕ)) → list_all is_unbroken ws ≡ true → words (spaced ws) ≡ ws
unfolding words
words-spaced ws h = ap (filter is_word) (parts-spaced ws (unbroken-lacks ws h)) ∙ kept-words ws h

pub words-blank : (bs : List ℕ) → words (32 ∷ bs) ≡ words bs
unfolding words
words-blank bs = ap (filter is_word) (parts-mark 32 bs)

-- what follows a word: nothing, or a blank
pub record IsBehindWord (xs : List ℕ) : Type 0 where
  pub none : until_mark 32 xs ≡ []
  pub all : from_mark 32 xs ≡ xs

pub until-append : (m : ℕ) (w xs : List ℕ) → lacks_mark m w ≡ true → until_mark m (w ++ xs) ≡ w ++ until_mark m xs
until-append m [] xs h = refl
until-append m (b ∷ w) xs h =
    let no : (b == m) ≡ false = not-true (b == m) (and-left (not (b == m)) (lacks_mark m w) h) in
    rw no (ap (λ rest. b ∷ rest) (until-append m w xs (and-right (not (b == m)) (lacks_mark m w) h)))

pub from-append : (m : ℕ) (w xs : List ℕ) → lacks_mark m w ≡ true → from_mark m (w ++ xs) ≡ from_mark m xs
from-append m [] xs h = refl
from-append m (b ∷ w) xs h =
    let no : (b == m) ≡ false = not-true (b == m) (and-left (not (b == m)) (lacks_mark m w) h) in
    rw no (from-append m w xs (and-right (not (b == m)) (lacks_mark m w) h))

no-blanks : (w xs : List ℕ) → is_unbroken w ≡ true → behind_blanks (w ++ xs) ≡ w ++ xs
no-blanks [] xs h = let no : false ≡ true = h in cc
no-blanks (b ∷ w) xs h =
    let no : (b == 32) ≡ false = not-true (b == 32) (and-left (not (b == 32)) (lacks_mark 32 w) h) in
    rw no refl

-- a word, and what follows it
pub first-word : (w xs : List ℕ) → is_unbroken w ≡ true → IsBehindWord xs → first_word (w ++ xs) ≡ w
unfolding first_word
first-word w xs h k =
    ap (until_mark 32) (no-blanks w xs h) ∙ (until-append 32 w xs (and-right (has_one w) (lacks_mark 32 w) h) ∙ (ap (λ rest. w ++ rest) k.none ∙ append-nil w))

pub other-words : (w xs : List ℕ) → is_unbroken w ≡ true → IsBehindWord xs → other_words (w ++ xs) ≡ xs
unfolding other_words
other-words w xs h k =
    ap (from_mark 32) (no-blanks w xs h) ∙ (from-append 32 w xs (and-right (has_one w) (lacks_mark 32 w) h) ∙ k.all)

pub first-word-blank : (xs : List ℕ) → first_word (32 ∷ xs) ≡ first_word xs
unfolding first_word
first-word-blank xs = refl

pub other-words-blank : (xs : List ℕ) → other_words (32 ∷ xs) ≡ other_words xs
unfolding other_words
other-words-blank xs = refl

pub behind-blank : (xs : List ℕ) → IsBehindWord (32 ∷ xs)
behind-blank xs = record { none = refl; all = refl }

pub behind-none : IsBehindWord []
behind-none = record { none = refl; all = refl }
