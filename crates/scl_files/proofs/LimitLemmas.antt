-- Words and openings within limits: what one more adds, and that what exceeds them goes on to.
use Rattle.std.proofs.Common.{◌≡◌, ℕ, ◌+◌, ◌<◌, ◌≤◌, ◌&&◌, Bool, true, false, List, [], ◌∷◌, ◌++◌, length, take, drop, get_or, Option, None, Some, Vec, ◌⊎◌, inl, inr, refl, sym, ap, subst, ◌∙◌, append_assoc, length-append, arith}
use Rattle.std.proofs.lemmas.Bool.{and_from, and_parts, leb-true, le-leb}
use Rattle.std.proofs.lemmas.List.{append-nil, length-map, map-append, take-append-drop}
use Rattle.std.specs.Option.{option_to_list}
use Rattle.std.specs.Prelude.{nat_le}
use Rattle.std.specs.declared.alloc.Global.{Global}
use Rattle.scl_values.specs.Words.{words_of}
use Rattle.scl_files.specs.Openings.{are_opened_within, texts_at}
use Rattle.scl_files.specs.Views.{File, bytes_at}
use Rattle.scl_files.specs.Walks.{AreTooMany, IsWithin}
use Rattle.scl_files.specs.Within.{bytes_in, is_within}
use Rattle.scl_files.specs.declared.expand.Limits.{Limits}
use Rattle.scl_files.specs.declared.line.Walked.{Walked}
use Rattle.scl_files.proofs.OnceLemmas.{texts-append}
use Rattle.scl_files.proofs.WalkLemmas.{taken_more}

-- ---- two numbers within two limits

fits : (most n : ℕ) → n ≤ most → nat_le n most ≡ true
fits most n h = le-leb n most h

exceeds : (most n : ℕ) → most < n → nat_le n most ≡ false
exceeds most n h = elim (nat_le n most) as (λ b. nat_le n most ≡ b → b ≡ false) [
  | true ↦ λ e. let within : n ≤ most = leb-true n most e in absurd (omega arith)
  | false ↦ λ _. refl
] refl

no_and : (b : Bool) → (b && false) ≡ false
no_and true = refl
no_and false = refl

pub both_fit : (words bytes n m : ℕ) → n ≤ words → m ≤ bytes → (nat_le n words && nat_le m bytes) ≡ true
both_fit words bytes n m h k = rw (fits words n h, fits bytes m k) refl

pub one_exceeds : (words bytes n m : ℕ) → ((words < n) ⊎ (bytes < m)) → (nat_le n words && nat_le m bytes) ≡ false
one_exceeds words bytes n m (inl h) = rw (exceeds words n h) refl
one_exceeds words bytes n m (inr h) = rw (exceeds bytes m h) (no_and (nat_le n words))

-- what exceeds a limit exceeds it with more
both_grow : (words bytes n m more others : ℕ) → n ≤ more → m ≤ others → (nat_le n words && nat_le m bytes) ≡ false → (nat_le more words && nat_le others bytes) ≡ false
both_grow words bytes n m more others h k over = elim (nat_le more words && nat_le others bytes) as (λ b. (nat_le more words && nat_le others bytes) ≡ b → b ≡ false) [
  | true ↦ λ e.
      let parts = and_parts (nat_le more words) (nat_le others bytes) e in
      let few : more ≤ words = leb-true more words parts.0 in
      let small : others ≤ bytes = leb-true others bytes parts.1 in
      let within : (nat_le n words && nat_le m bytes) ≡ true = both_fit words bytes n m (omega arith) (omega arith) in
      absurd (cc)
  | false ↦ λ _. refl
] refl

-- ---- bytes

pub bytes-append : (xs ys : List (List ℕ)) → bytes_in (xs ++ ys) ≡ bytes_in xs + bytes_in ys
bytes-append [] ys = omega arith
bytes-append (x ∷ xs) ys = let rest : bytes_in (xs ++ ys) ≡ bytes_in xs + bytes_in ys = bytes-append xs ys in omega arith

-- ---- words and openings that exceed the limits, and more of them

pub words_grow : (most : Limits) (xs ys : List (List ℕ)) → is_within most xs ≡ false → is_within most (xs ++ ys) ≡ false
words_grow most xs ys over =
    let count : length (xs ++ ys) ≡ length xs + length ys = length-append xs ys in
    let bytes : bytes_in (xs ++ ys) ≡ bytes_in xs + bytes_in ys = bytes-append xs ys in
    both_grow most.words most.bytes (length xs) (bytes_in xs) (length (xs ++ ys)) (bytes_in (xs ++ ys)) (omega arith) (omega arith) over

pub openings_grow : (most : Limits) (files : List File) (ps qs : List (List ℕ)) → are_opened_within most files ps ≡ false → are_opened_within most files (ps ++ qs) ≡ false
openings_grow most files ps qs over =
    let count : length (ps ++ qs) ≡ length ps + length qs = length-append ps qs in
    let texts : bytes_in (texts_at files (ps ++ qs)) ≡ bytes_in (texts_at files ps ++ texts_at files qs) = ap bytes_in (texts-append files ps qs) in
    let bytes : bytes_in (texts_at files ps ++ texts_at files qs) ≡ bytes_in (texts_at files ps) + bytes_in (texts_at files qs) = bytes-append (texts_at files ps) (texts_at files qs) in
    both_grow most.words most.bytes (length ps) (bytes_in (texts_at files ps)) (length (ps ++ qs)) (bytes_in (texts_at files (ps ++ qs))) (omega arith) (omega arith) over

pub too_many_more : (most : Limits) (files : List File) (xs ys all ps qs paths : List (List ℕ)) → xs ++ ys ≡ all → ps ++ qs ≡ paths → AreTooMany most files xs ps → AreTooMany most files all paths
too_many_more most files xs ys all ps qs paths e o (inl h) = inl (subst (λ ws. is_within most ws ≡ false) e (words_grow most xs ys h))
too_many_more most files xs ys all ps qs paths e o (inr h) = inr (subst (λ os. are_opened_within most files os ≡ false) o (openings_grow most files ps qs h))

-- ---- one more word

counted : (words : List (Vec ℕ Global)) → length (words_of words) ≡ length words
counted words = length-map words (λ word. word.items)

one_more : (words : List (List ℕ)) (word : List ℕ) → length (words ++ word ∷ []) ≡ length words + 1
one_more words word = let both : length (words ++ word ∷ []) ≡ length words + length (word ∷ []) = length-append words (word ∷ []) in omega arith

bytes_more : (words : List (List ℕ)) (word : List ℕ) → bytes_in (words ++ word ∷ []) ≡ bytes_in words + length word
bytes_more words word = let both : bytes_in (words ++ word ∷ []) ≡ bytes_in words + bytes_in (word ∷ []) = bytes-append words (word ∷ []) in omega arith

pub word_more : (words : List (Vec ℕ Global)) (word : Vec ℕ Global) → bytes_in (words_of (words ++ word ∷ [])) ≡ bytes_in (words_of words) + length word.items
word_more words word = ap bytes_in (map-append (λ w. w.items) words (word ∷ [])) ∙ bytes_more (words_of words) word.items

pub count_over : (most : Limits) (words : List (Vec ℕ Global)) (word : List ℕ) → length words ≡ most.words → is_within most (words_of words ++ word ∷ []) ≡ false
count_over most words word full =
    let count : length (words_of words) ≡ length words = counted words in
    let more : length (words_of words ++ word ∷ []) ≡ length (words_of words) + 1 = one_more (words_of words) word in
    one_exceeds most.words most.bytes (length (words_of words ++ word ∷ [])) (bytes_in (words_of words ++ word ∷ [])) (inl (omega arith))

pub bytes_over : (most : Limits) (words : List (Vec ℕ Global)) (word : List ℕ) → most.bytes < bytes_in (words_of words) + length word → is_within most (words_of words ++ word ∷ []) ≡ false
bytes_over most words word over =
    let more : bytes_in (words_of words ++ word ∷ []) ≡ bytes_in (words_of words) + length word = bytes_more (words_of words) word in
    one_exceeds most.words most.bytes (length (words_of words ++ word ∷ [])) (bytes_in (words_of words ++ word ∷ [])) (inr (omega arith))

-- ---- one more opening

texts_more : (files : List File) (paths : List (List ℕ)) (path : List ℕ)
    → bytes_in (texts_at files (paths ++ path ∷ [])) ≡ bytes_in (texts_at files paths) + bytes_in (option_to_list (bytes_at path files))
texts_more files paths path =
    ap bytes_in (texts-append files paths (path ∷ []))
    ∙ bytes-append (texts_at files paths) (texts_at files (path ∷ []))
    ∙ ap (λ ts. bytes_in (texts_at files paths) + bytes_in ts) (append-nil (option_to_list (bytes_at path files)))

pub opening_more : (files : List File) (paths : List (Vec ℕ Global)) (path : Vec ℕ Global)
    → bytes_in (texts_at files (words_of (paths ++ path ∷ []))) ≡ bytes_in (texts_at files (words_of paths)) + bytes_in (option_to_list (bytes_at path.items files))
opening_more files paths path = ap (λ ps. bytes_in (texts_at files ps)) (map-append (λ w. w.items) paths (path ∷ [])) ∙ texts_more files (words_of paths) path.items

pub opening_count_over : (most : Limits) (files : List File) (paths : List (Vec ℕ Global)) (path : List ℕ) → length paths ≡ most.words → are_opened_within most files (words_of paths ++ path ∷ []) ≡ false
opening_count_over most files paths path full =
    let count : length (words_of paths) ≡ length paths = counted paths in
    let more : length (words_of paths ++ path ∷ []) ≡ length (words_of paths) + 1 = one_more (words_of paths) path in
    one_exceeds most.words most.bytes (length (words_of paths ++ path ∷ [])) (bytes_in (texts_at files (words_of paths ++ path ∷ []))) (inl (omega arith))

pub opening_bytes_over : (most : Limits) (files : List File) (paths : List (Vec ℕ Global)) (path : List ℕ)
    → most.bytes < bytes_in (texts_at files (words_of paths)) + bytes_in (option_to_list (bytes_at path files)) → are_opened_within most files (words_of paths ++ path ∷ []) ≡ false
opening_bytes_over most files paths path over =
    let more : bytes_in (texts_at files (words_of paths ++ path ∷ [])) ≡ bytes_in (texts_at files (words_of paths)) + bytes_in (option_to_list (bytes_at path files)) = texts_more files (words_of paths) path in
    one_exceeds most.words most.bytes (length (words_of paths ++ path ∷ [])) (bytes_in (texts_at files (words_of paths ++ path ∷ []))) (inr (omega arith))

-- ---- a word or an opening that is too much, while others are left

pub words_stop : (most : Limits) (files : List File) (words : List (List ℕ)) (word : List ℕ) (left to_come all paths : List (List ℕ))
    → is_within most (words ++ word ∷ []) ≡ false → to_come ≡ word ∷ left → words ++ to_come ≡ all → AreTooMany most files all paths
words_stop most files words word left to_come all paths over first is =
    inl (subst (λ ws. is_within most ws ≡ false) (append_assoc words (word ∷ []) left ∙ ap (λ ws. words ++ ws) (sym first) ∙ is) (words_grow most (words ++ word ∷ []) left over))

pub openings_stop : (most : Limits) (files : List File) (paths : List (List ℕ)) (path : List ℕ) (left to_come all words : List (List ℕ))
    → are_opened_within most files (paths ++ path ∷ []) ≡ false → to_come ≡ path ∷ left → paths ++ to_come ≡ all → AreTooMany most files words all
openings_stop most files paths path left to_come all words over first is =
    inr (subst (λ os. are_opened_within most files os ≡ false) (append_assoc paths (path ∷ []) left ∙ ap (λ os. paths ++ os) (sym first) ∙ is) (openings_grow most files (paths ++ path ∷ []) left over))

-- ---- some of the words of a line

pub taken_bytes : (words : List (Vec ℕ Global)) (i : ℕ) (word : Vec ℕ Global) → i < length words → word ≡ get_or words i word
    → bytes_in (words_of (take (i + 1) words)) ≡ bytes_in (words_of (take i words)) + length word.items
taken_bytes words i word within is = ap bytes_in (taken_more words i word within is) ∙ bytes_more (words_of (take i words)) word.items

pub rest_over : (most : Limits) (words : List (Vec ℕ Global)) (i : ℕ) (word : Vec ℕ Global) → i < length words → word ≡ get_or words i word
    → most.bytes < bytes_in (words_of (take i words)) + length word.items → is_within most (words_of words) ≡ false
rest_over most words i word within is over =
    let here : bytes_in (words_of (take (i + 1) words)) ≡ bytes_in (words_of (take i words)) + length word.items = taken_bytes words i word within is in
    let cut : words_of (take (i + 1) words) ++ words_of (drop (i + 1) words) ≡ words_of words =
    sym (map-append (λ w. w.items) (take (i + 1) words) (drop (i + 1) words)) ∙ ap words_of (take-append-drop (i + 1) words) in
    subst (λ ws. is_within most ws ≡ false) cut (words_grow most (words_of (take (i + 1) words)) (words_of (drop (i + 1) words))
    (one_exceeds most.words most.bytes (length (words_of (take (i + 1) words))) (bytes_in (words_of (take (i + 1) words))) (inr (omega arith))))

-- ---- what was walked over

pub both_within : (most : Limits) (files : List File) (w : Walked) → IsWithin most files w → (is_within most (words_of w.words.items) && are_opened_within most files (words_of w.openings.items)) ≡ true
both_within most files w within =
    let word_count : length (words_of w.words.items) ≡ length w.words.items = length-map w.words.items (λ word. word.items) in
    let opening_count : length (words_of w.openings.items) ≡ length w.openings.items = length-map w.openings.items (λ word. word.items) in
    let few_words : length w.words.items ≤ most.words = within.0.0 in
    let small_words : w.word_bytes ≤ most.bytes = within.0.1 in
    let counted_words : w.word_bytes ≡ bytes_in (words_of w.words.items) = within.0.2 in
    let few_openings : length w.openings.items ≤ most.words = within.1.0 in
    let small_texts : w.text_bytes ≤ most.bytes = within.1.1 in
    let counted_texts : w.text_bytes ≡ bytes_in (texts_at files (words_of w.openings.items)) = within.1.2 in
    and_from (is_within most (words_of w.words.items)) (are_opened_within most files (words_of w.openings.items))
    (both_fit most.words most.bytes (length (words_of w.words.items)) (bytes_in (words_of w.words.items)) (omega arith) (omega arith))
    (both_fit most.words most.bytes (length (words_of w.openings.items)) (bytes_in (texts_at files (words_of w.openings.items))) (omega arith) (omega arith))

pub not_within : (most : Limits) (files : List File) (words paths : List (List ℕ)) → AreTooMany most files words paths → (is_within most words && are_opened_within most files paths) ≡ false
not_within most files words paths (inl h) = rw h refl
not_within most files words paths (inr h) = rw h (no_and (is_within most words))
