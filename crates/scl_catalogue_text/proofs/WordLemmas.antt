-- The first word, and the words after it.
use Rattle.std.proofs.Common.{◌≡◌, ◌∙◌, ℕ, ◌<◌, ◌==◌, Bool, true, false, List, [], ◌∷◌, length, filter, refl, sym, ap, arith}
use Rattle.std.specs.List.{onto_first}
use Rattle.scl_catalogue_text.specs.Cutting.{first_word, from_mark, is_word, other_words, parts, until_mark, words}
use Rattle.scl_catalogue_text.proofs.CutLemmas.{from-le}

-- the parts behind the mark that stands first
abbrev parts_behind : ℕ → List ℕ → List (List ℕ)
parts_behind m [] = []
parts_behind m (b ∷ bs) = parts m bs

parts-by : (m b : ℕ) (bs : List ℕ) (t : Bool) → (b == m) ≡ t → parts m bs ≡ until_mark m bs ∷ parts_behind m (from_mark m bs)
    → parts m (b ∷ bs) ≡ until_mark m (b ∷ bs) ∷ parts_behind m (from_mark m (b ∷ bs))
unfolding parts
parts-by m b bs true e h = rw e refl
parts-by m b bs false e h = rw e (ap (onto_first b) h)

parts-first : (m : ℕ) (bs : List ℕ) → parts m bs ≡ until_mark m bs ∷ parts_behind m (from_mark m bs)
unfolding parts
parts-first m [] = refl
parts-first m (b ∷ bs) = parts-by m b bs (b == m) refl (parts-first m bs)

words-by : (b : ℕ) (bs : List ℕ) (t : Bool) → (b == 32) ≡ t → words (from_mark 32 bs) ≡ filter is_word (parts_behind 32 (from_mark 32 bs))
    → words (from_mark 32 (b ∷ bs)) ≡ filter is_word (parts_behind 32 (from_mark 32 (b ∷ bs)))
unfolding words parts
words-by b bs true e h = rw e (rw e refl)
words-by b bs false e h = rw e h

words-behind : (bs : List ℕ) → words (from_mark 32 bs) ≡ filter is_word (parts_behind 32 (from_mark 32 bs))
unfolding words parts
words-behind [] = refl
words-behind (b ∷ bs) = words-by b bs (b == 32) refl (words-behind bs)

some-by : (b : ℕ) (bs : List ℕ) (t : Bool) → (b == 32) ≡ t → (is_word (first_word bs) ≡ true → words bs ≡ first_word bs ∷ words (other_words bs))
    → is_word (first_word (b ∷ bs)) ≡ true → words (b ∷ bs) ≡ first_word (b ∷ bs) ∷ words (other_words (b ∷ bs))
unfolding words parts first_word other_words
some-by b bs true e h is =
    let word : first_word (b ∷ bs) ≡ first_word bs = rw e refl in
    let others : other_words (b ∷ bs) ≡ other_words bs = rw e refl in
    let all : words (b ∷ bs) ≡ words bs = rw e refl in
    all ∙ (h (sym (ap is_word word) ∙ is) ∙ sym (ap (λ w. w ∷ words (other_words (b ∷ bs))) word ∙ ap (λ o. first_word bs ∷ words o) others))
some-by b bs false e h is =
    let word : first_word (b ∷ bs) ≡ b ∷ until_mark 32 bs = rw e (rw e refl) in
    let others : other_words (b ∷ bs) ≡ from_mark 32 bs = rw e (rw e refl) in
    let all : words (b ∷ bs) ≡ (b ∷ until_mark 32 bs) ∷ words (from_mark 32 bs) =
    ap (filter is_word) (parts-first 32 (b ∷ bs)) ∙ (rw e (ap (λ ws. (b ∷ until_mark 32 bs) ∷ ws) (sym (words-behind bs)))) in
    all ∙ sym (ap (λ w. w ∷ words (other_words (b ∷ bs))) word ∙ ap (λ o. (b ∷ until_mark 32 bs) ∷ words o) others)

pub words_some : (bs : List ℕ) → is_word (first_word bs) ≡ true → words bs ≡ first_word bs ∷ words (other_words bs)
unfolding first_word
words_some [] h = let no : false ≡ true = h in cc
words_some (b ∷ bs) h = some-by b bs (b == 32) refl (words_some bs) h

none-by : (b : ℕ) (bs : List ℕ) (t : Bool) → (b == 32) ≡ t → (is_word (first_word bs) ≡ false → words bs ≡ []) → is_word (first_word (b ∷ bs)) ≡ false → words (b ∷ bs) ≡ []
unfolding words parts first_word
none-by b bs true e h none =
    let word : first_word (b ∷ bs) ≡ first_word bs = rw e refl in
    let all : words (b ∷ bs) ≡ words bs = rw e refl in
    all ∙ h (sym (ap is_word word) ∙ none)
none-by b bs false e h none =
    let word : first_word (b ∷ bs) ≡ b ∷ until_mark 32 bs = rw e (rw e refl) in
    let no : true ≡ false = sym (ap is_word word) ∙ none in cc

pub words_none : (bs : List ℕ) → is_word (first_word bs) ≡ false → words bs ≡ []
unfolding words parts
words_none [] h = refl
words_none (b ∷ bs) h = none-by b bs (b == 32) refl (words_none bs) h

shorter-by : (b : ℕ) (bs : List ℕ) (t : Bool) → (b == 32) ≡ t → (is_word (first_word bs) ≡ true → length (other_words bs) < length bs) → is_word (first_word (b ∷ bs)) ≡ true → length (other_words (b ∷ bs)) < length (b ∷ bs)
unfolding first_word other_words
shorter-by b bs true e h is =
    let word : first_word (b ∷ bs) ≡ first_word bs = rw e refl in
    let others : length (other_words (b ∷ bs)) ≡ length (other_words bs) = rw e refl in
    let rest = h (sym (ap is_word word) ∙ is) in
    omega arith
shorter-by b bs false e h is =
    let others : length (other_words (b ∷ bs)) ≡ length (from_mark 32 bs) = rw e (rw e refl) in
    let rest = from-le 32 bs in
    omega arith

pub others_shorter : (bs : List ℕ) → is_word (first_word bs) ≡ true → length (other_words bs) < length bs
unfolding first_word
others_shorter [] h = let no : false ≡ true = h in cc
others_shorter (b ∷ bs) h = shorter-by b bs (b == 32) refl (others_shorter bs) h
