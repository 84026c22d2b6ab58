-- Distinct words, found one after another.
use Rattle.std.proofs.Common.{◌≡◌, ℕ, ◌≤◌, ◌||◌, Bool, true, false, cond, not, List, [], ◌∷◌, ◌++◌, length, filter, refl, ap, ◌∙◌, arith}
use Rattle.std.proofs.Math.Bool.{or-true, or-false}
use Rattle.std.proofs.lemmas.Slice.Eq.{bytes_eq-Decides}
use Rattle.std.proofs.lemmas.List.{append_assoc}
use Rattle.std.proofs.lemmas.List.Folds.{list_any-append}
use Rattle.std.specs.List.{list_any}
use Rattle.std.specs.Str.{bytes_eq}
use Rattle.scl_text.specs.Records.{distinct_words, without_word}

abbrev pub is_new : List (List ℕ) → List ℕ → Bool
is_new seen word = not (list_any (bytes_eq word) seen)

-- the distinct words that are not among these
abbrev pub new_words : List (List ℕ) → List (List ℕ) → List (List ℕ)
new_words seen words = filter (is_new seen) (distinct_words words)

all_new : (words : List (List ℕ)) → filter (is_new []) words ≡ words
all_new [] = refl
all_new (word ∷ words) = ap (λ ws. word ∷ ws) (all_new words)

pub new_words-nil : (words : List (List ℕ)) → [] ++ new_words [] words ≡ distinct_words words
new_words-nil words = all_new (distinct_words words)

same_word : (a b : List ℕ) → bytes_eq a b ≡ true → a ≡ b
same_word a b h = (bytes_eq-Decides a b).0 h

same_as_itself : (a : List ℕ) → bytes_eq a a ≡ true
same_as_itself a = (bytes_eq-Decides a a).1 refl

-- a word equal to one that was seen is not new
filter-seen : (seen : List (List ℕ)) (word : List ℕ) (words : List (List ℕ)) → list_any (bytes_eq word) seen ≡ true → filter (is_new seen) (without_word word words) ≡ filter (is_new seen) words
filter-seen seen word [] h = refl
filter-seen seen word (other ∷ words) h =
    elim (bytes_eq other word) as (λ b. bytes_eq other word ≡ b → filter (is_new seen) (cond (not b) (other ∷ without_word word words) (without_word word words)) ≡ filter (is_new seen) (other ∷ words)) [
      | true ↦ λ e. let known : list_any (bytes_eq other) seen ≡ true = rw (same_word other word e) h in rw known (filter-seen seen word words h)
      | false ↦ λ e. ap (λ ws. cond (is_new seen other) (other ∷ ws) ws) (filter-seen seen word words h)
    ] refl

pub new_words-seen : (seen : List (List ℕ)) (word : List ℕ) (words : List (List ℕ)) → list_any (bytes_eq word) seen ≡ true → new_words seen (word ∷ words) ≡ new_words seen words
new_words-seen seen word words h = rw h (filter-seen seen word (distinct_words words) h)

-- a word is new after these and one more, if it is new after these and is not that one
is_new-more : (seen : List (List ℕ)) (word other : List ℕ) → is_new (seen ++ word ∷ []) other ≡ not (list_any (bytes_eq other) seen || (bytes_eq other word || false))
is_new-more seen word other = ap not (list_any-append (bytes_eq other) seen (word ∷ []))

filter-unseen : (seen : List (List ℕ)) (word : List ℕ) (words : List (List ℕ)) → filter (is_new seen) (without_word word words) ≡ filter (is_new (seen ++ word ∷ [])) words
filter-unseen seen word [] = refl
filter-unseen seen word (other ∷ words) =
    rw (is_new-more seen word other) (elim (bytes_eq other word) as (λ b. filter (is_new seen) (cond (not b) (other ∷ without_word word words) (without_word word words))
    ≡ cond (not (list_any (bytes_eq other) seen || (b || false))) (other ∷ filter (is_new (seen ++ word ∷ [])) words) (filter (is_new (seen ++ word ∷ [])) words)) [
      | true ↦ rw or-true (filter-unseen seen word words)
      | false ↦ rw or-false (ap (λ ws. cond (is_new seen other) (other ∷ ws) ws) (filter-unseen seen word words))
    ])

pub new_words-unseen : (seen : List (List ℕ)) (word : List ℕ) (words : List (List ℕ)) → list_any (bytes_eq word) seen ≡ false
    → seen ++ new_words seen (word ∷ words) ≡ (seen ++ word ∷ []) ++ new_words (seen ++ word ∷ []) words
new_words-unseen seen word words h = rw h (rw append_assoc (ap (λ ws. seen ++ word ∷ ws) (filter-unseen seen word (distinct_words words))))

pub ruleset distinct_rules = (new_words-nil, new_words-seen, new_words-unseen)

without_word-again : (word : List ℕ) (words : List (List ℕ)) → without_word word (without_word word words) ≡ without_word word words
without_word-again word [] = refl
without_word-again word (other ∷ words) =
    elim (bytes_eq other word) as (λ b. bytes_eq other word ≡ b → without_word word (cond (not b) (other ∷ without_word word words) (without_word word words)) ≡ cond (not b) (other ∷ without_word word words) (without_word word words)) [
      | true ↦ λ e. without_word-again word words
      | false ↦ λ e. rw e (ap (λ ws. other ∷ ws) (without_word-again word words))
    ] refl

again : (word : List ℕ) (words : List (List ℕ)) → distinct_words (word ∷ (word ∷ words)) ≡ distinct_words (word ∷ words)
again word words = rw (same_as_itself word) (ap (λ ws. word ∷ ws) (without_word-again word (distinct_words words)))

pub distinct_words-again : (word other : List ℕ) (words : List (List ℕ)) → bytes_eq other word ≡ true → distinct_words (word ∷ (other ∷ words)) ≡ distinct_words (word ∷ words)
distinct_words-again word other words h = ap (λ w. distinct_words (word ∷ (w ∷ words))) (same_word other word h) ∙ again word words

pub distinct_words-two : (word other : List ℕ) (words : List (List ℕ)) → bytes_eq other word ≡ false → 2 ≤ length (distinct_words (word ∷ (other ∷ words)))
distinct_words-two word other words h = rw h (omega arith)

pub ruleset many_rules = (distinct_words-again, distinct_words-two)
