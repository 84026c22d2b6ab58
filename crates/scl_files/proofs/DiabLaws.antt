-- The law of Diab texts.
use Rattle.std.proofs.Common.{◌≡◌, ℕ, ◌||◌, ◌&&◌, Bool, true, false, not, List, [], ◌∷◌, ◌++◌, map, Some, encode_utf8_all, refl, sym, ap, ◌∙◌}
use Rattle.std.proofs.lemmas.List.{append-nil}
use Rattle.std.proofs.lemmas.Bool.{false≢true}
use Rattle.std.specs.List.{list_all, list_any, join_with_byte}
use Rattle.std.specs.Str.{NonePass}
use Rattle.scl_files.specs.DiabText.{is_white_space, is_quote, diab_words, is_diab_word, PlainWordsAreReadBack}
use Rattle.scl_files.proofs.DiabLemmas.{words-gap, words-word, nothing, white, arguments-plain}

and_left : (a b : Bool) → (a && b) ≡ true → a ≡ true
and_left true b h = refl
and_left false b h = h

and_right : (a b : Bool) → (a && b) ≡ true → b ≡ true
and_right true b h = h
and_right false b h = absurd (false≢true h)

neither : (a b : Bool) → not (a || b) ≡ true → (a ≡ false) × (b ≡ false)
neither true b h = absurd (false≢true h)
neither false true h = absurd (false≢true h)
neither false false h = (refl, refl)

abbrev is_plain : ℕ → Bool
is_plain c = not (is_white_space c || is_quote c)

no_white : (word : List ℕ) → list_all is_plain word ≡ true → NonePass is_white_space word
no_white [] h = tt
no_white (c ∷ cs) h = ((neither (is_white_space c) (is_quote c) (and_left (is_plain c) (list_all is_plain cs) h)).0, no_white cs (and_right (is_plain c) (list_all is_plain cs) h))

no_quote : (word rest : List ℕ) → list_all is_plain word ≡ true → list_any is_quote rest ≡ false → list_any is_quote (word ++ rest) ≡ false
no_quote [] rest h none = none
no_quote (c ∷ cs) rest h none =
    rw ((neither (is_white_space c) (is_quote c) (and_left (is_plain c) (list_all is_plain cs) h)).1) (no_quote cs rest (and_right (is_plain c) (list_all is_plain cs) h) none)

record AreRead (words : List (List ℕ)) : Type 0 where
  no_quotes : list_any is_quote (join_with_byte 32 words) ≡ false
  words_are : diab_words (join_with_byte 32 words) ≡ words

read : (words : List (List ℕ)) → list_all is_diab_word words ≡ true → AreRead words
read [] h = record { no_quotes = refl; words_are = refl }
read ([] ∷ words) h = absurd (false≢true h)
read ((c ∷ cs) ∷ []) h =
    let plain = and_left (list_all is_plain (c ∷ cs)) true h in
    record {
      no_quotes = ap (list_any is_quote) (sym (append-nil (c ∷ cs))) ∙ no_quote (c ∷ cs) [] plain refl;
      words_are = ap diab_words (sym (append-nil (c ∷ cs))) ∙ words-word c cs [] (no_white (c ∷ cs) plain) nothing;
    }
read ((c ∷ cs) ∷ (next ∷ words)) h =
    let plain = and_left (list_all is_plain (c ∷ cs)) (list_all is_diab_word (next ∷ words)) h in
    let others = read (next ∷ words) (and_right (list_all is_plain (c ∷ cs)) (list_all is_diab_word (next ∷ words)) h) in
    record {
      no_quotes = no_quote (c ∷ cs) (32 ∷ join_with_byte 32 (next ∷ words)) plain others.no_quotes;
      words_are = words-word c cs (32 ∷ join_with_byte 32 (next ∷ words)) (no_white (c ∷ cs) plain) (white 32 _ refl)
          ∙ ap (λ (ws : List (List ℕ)). (c ∷ cs) ∷ ws) (words-gap 32 (join_with_byte 32 (next ∷ words)) refl ∙ others.words_are);
    }

pub plain_words_are_read_back : PlainWordsAreReadBack
plain_words_are_read_back = λ words h.
    let are = read words h in
    arguments-plain _ are.no_quotes ∙ ap (λ (ws : List (List ℕ)). Some (map encode_utf8_all ws)) are.words_are
