-- The laws of a shell's texts.
use Rattle.std.proofs.Common.{◌≡◌, ℕ, ◌==◌, ◌||◌, ◌&&◌, Bool, true, false, not, cond, List, [], ◌∷◌, ◌++◌, length, Option, None, Some, Ok, Err, refl, sym, ap, subst, ◌∙◌, append_assoc, arith, inl, inr, ◌⊎◌}
use Rattle.std.proofs.lemmas.List.{append-nil}
use Rattle.std.proofs.lemmas.Bool.{eqb-true, cases_Bool}
use Rattle.std.specs.Prelude.{nat_eq}
use Rattle.std.specs.List.{list_all, flat_map, starts_with}
use Rattle.scl_shell.specs.Laws.{EachTextHasOneReading, BrokenTextsHaveNoWords, QuotedWordsAreReadBack}
use Rattle.scl_shell.specs.ShellText.{with}
use Rattle.scl_shell.specs.Quoted.{is_plain, is_bare, in_quotes, in_single_quotes, quoted, quoted_next, quoted_text}
use Rattle.scl_shell.specs.declared.split.ShellError.{ShellError}
use Rattle.scl_shell.specs.declared.split.Mode.TheVariants as mode
use Rattle.scl_shell.proofs.ShellLemmas.{Said, before, before-nil, read_from, with-with, words_read, broken_read, read_means}

same_words : (words others : List (List ℕ)) (said : Said) → said ≡ Ok words → said ≡ Ok others → words ≡ others
same_words words others said a b = cc

same_errors : (e f : ShellError) (said : Said) → said ≡ Err e → said ≡ Err f → e ≡ f
same_errors e f said a b = cc

not_both : (words : List (List ℕ)) (e : ShellError) (said : Said) → said ≡ Ok words → said ≡ Err e → ⊥
not_both words e said a b = cc

pub each_text_has_one_reading : EachTextHasOneReading
each_text_has_one_reading = λ text words others a b. same_words words others _ (words_read text words a) (words_read text others b)

pub broken_texts_have_no_words : BrokenTextsHaveNoWords
broken_texts_have_no_words = λ text error b.
    (λ words a. not_both words error _ (words_read text words a) (broken_read text error b), λ another c. same_errors error another _ (broken_read text error b) (broken_read text another c))

-- ---- quoted words

-- a plain byte is no blank, no backslash and no quote
record MeansNothing (c : ℕ) : Type 0 where
  no_blank : (c == 32 || c == 9 || c == 10) ≡ false
  no_backslash : (c == 92) ≡ false
  no_single : (c == 39) ≡ false
  no_double : (c == 34) ≡ false

means_nothing : (c : ℕ) → is_plain c ≡ true → MeansNothing c
means_nothing c h = record { no_blank = grind arith; no_backslash = grind arith; no_single = grind arith; no_double = grind arith }

and_left : (a b : Bool) → (a && b) ≡ true → a ≡ true
and_left true b h = refl
and_left false b h = h

and_right : (a b : Bool) → (a && b) ≡ true → b ≡ true
and_right true b h = h
and_right false b h = cc

read_bare : (word rest m : List ℕ) (begun : Option (List ℕ)) → list_all is_plain word ≡ true
    → read_from mode.Plain (with begun m) (word ++ rest) ≡ read_from mode.Plain (with begun (m ++ word)) rest
read_bare [] rest m begun h = rw append-nil refl
read_bare (c ∷ word) rest m begun h =
    let n = means_nothing c (and_left (is_plain c) (list_all is_plain word) h) in
    rw (n.no_backslash, n.no_single, n.no_double, n.no_blank)
    (before-nil _ ∙ rw with-with (read_bare word rest (m ++ c ∷ []) begun (and_right (is_plain c) (list_all is_plain word) h) ∙ rw append_assoc refl))

abbrev ReadsInQuotes : List ℕ → Type 0
ReadsInQuotes word = (rest m : List ℕ) (begun : Option (List ℕ)) → read_from mode.Single (with begun m) (flat_map in_quotes word ++ 39 ∷ rest) ≡ read_from mode.Plain (with begun (m ++ word)) rest

quoted_byte : (c : ℕ) (word : List ℕ) → ReadsInQuotes word → (c == 39 ≡ true) ⊎ (c == 39 ≡ false) → ReadsInQuotes (c ∷ word)
quoted_byte c word ih (inl q) =
    let P : ℕ → Type 0 = λ x. ReadsInQuotes (x ∷ word) in
    subst P (sym (eqb-true c 39 q)) (λ rest m begun.
    before-nil _ ∙ before-nil _ ∙ before-nil _ ∙ before-nil _ ∙ rw (with-with (with begun m) (39 ∷ []) [], with-with begun m (39 ∷ [])) (ih rest (m ++ 39 ∷ []) begun ∙ rw append_assoc refl))
quoted_byte c word ih (inr q) = λ rest m begun. rw (q, q) (before-nil _ ∙ rw with-with (ih rest (m ++ c ∷ []) begun ∙ rw append_assoc refl))

read_in_quotes : (word : List ℕ) → ReadsInQuotes word
read_in_quotes [] = λ rest m begun. rw append-nil (before-nil _)
read_in_quotes (c ∷ word) = quoted_byte c word (read_in_quotes word) (cases_Bool (c == 39))

-- a quoted word is read as the word, whatever follows
read_single_quoted : (word rest : List ℕ) → read_from mode.Plain None (in_single_quotes word ++ rest) ≡ read_from mode.Plain (Some word) rest
read_single_quoted word rest = before-nil _ ∙ rw (append_assoc (flat_map in_quotes word) (39 ∷ []) rest) (read_in_quotes word rest [] None)

read_quoted_as : (word rest : List ℕ) (bare : Bool) → is_bare word ≡ bare → read_from mode.Plain None (cond bare word (in_single_quotes word) ++ rest) ≡ read_from mode.Plain (Some word) rest
read_quoted_as word rest false h = read_single_quoted word rest
read_quoted_as [] rest true h = cc
read_quoted_as (c ∷ word) rest true h = read_first c word rest (and_right (not (length (c ∷ word) == 0) && not (starts_with nat_eq (c ∷ word) (61 ∷ []))) (list_all is_plain (c ∷ word)) h)
  where
    read_first : (d : ℕ) (w r : List ℕ) → list_all is_plain (d ∷ w) ≡ true → read_from mode.Plain None (d ∷ (w ++ r)) ≡ read_from mode.Plain (Some (d ∷ w)) r
    read_first d w r all =
        let n = means_nothing d (and_left (is_plain d) (list_all is_plain w) all) in
        rw (n.no_backslash, n.no_single, n.no_double, n.no_blank) (before-nil _ ∙ read_bare w r (d ∷ []) None (and_right (is_plain d) (list_all is_plain w) all))

read_quoted : (word rest : List ℕ) → read_from mode.Plain None (quoted word ++ rest) ≡ read_from mode.Plain (Some word) rest
read_quoted word rest = read_quoted_as word rest (is_bare word) refl

read_others : (words : List (List ℕ)) (word : List ℕ) → read_from mode.Plain (Some word) (flat_map quoted_next words) ≡ Ok (word ∷ words)
read_others [] word = refl
read_others (next ∷ words) word = ap (before (word ∷ [])) (read_quoted next (flat_map quoted_next words) ∙ read_others words next)

read_all : (words : List (List ℕ)) → read_from mode.Plain None (quoted_text words) ≡ Ok words
read_all [] = refl
read_all (word ∷ words) = read_quoted word (flat_map quoted_next words) ∙ read_others words word

pub quoted_words_are_read_back : QuotedWordsAreReadBack
quoted_words_are_read_back = λ words. read_means (quoted_text words) (Ok words) (read_all words)

pub ruleset shell_laws = (each_text_has_one_reading, broken_texts_have_no_words, quoted_words_are_read_back)
