-- A Diab text, word by word.
use Rattle.std.proofs.Common.{◌≡◌, ℕ, ◌<◌, Bool, true, false, not, List, [], ◌∷◌, ◌++◌, map, Some, None, length, encode_utf8, encode_utf8_all, refl, sym, ap, subst, ◌∙◌, append_assoc, arith}
use Rattle.std.proofs.lemmas.List.{append-nil}
use Rattle.std.proofs.lemmas.Bool.{false≢true}
use Rattle.std.proofs.lemmas.Str.{chars_past_char, IsUtf8-past_char, chars-nil}
use Rattle.std.proofs.lemmas.List.Splits.{slice_split-cons_yes, slice_split-cons_no}
use Rattle.std.specs.Char.{is_whitespace, is_not_whitespace}
use Rattle.std.specs.List.{slice_split, list_any}
use Rattle.std.specs.Str.{chars, IsUtf8, NonePass, NoCharPasses, EmptyOrStartsWithPassing}
use Rattle.scl_files.specs.DiabText.{is_white_space, is_quote, diab_words, diab_arguments}

pub words-gap : (c : ℕ) (cs : List ℕ) → is_white_space c ≡ true → diab_words (c ∷ cs) ≡ diab_words cs
words-gap c cs h = rw (slice_split-cons_yes is_white_space c cs h) refl

-- what follows a word: nothing, or white space
pub data EndsWord : List ℕ → Type 0 where
  nothing : EndsWord []
  white : (c : ℕ) (cs : List ℕ) → is_white_space c ≡ true → EndsWord (c ∷ cs)

first_part : (word : List ℕ) (c : ℕ) (cs : List ℕ) → NonePass is_white_space word → is_white_space c ≡ true → slice_split is_white_space (word ++ c ∷ cs) ≡ word ∷ slice_split is_white_space cs
first_part [] c cs none h = slice_split-cons_yes is_white_space c cs h
first_part (x ∷ word) c cs none h = rw (slice_split-cons_no is_white_space x (word ++ c ∷ cs) none.0, first_part word c cs none.1 h) refl

only_part : (word : List ℕ) → NonePass is_white_space word → slice_split is_white_space word ≡ word ∷ []
only_part [] none = refl
only_part (x ∷ word) none = rw (slice_split-cons_no is_white_space x word none.0, only_part word none.1) refl

pub words-word : (x : ℕ) (word cs : List ℕ) → NonePass is_white_space (x ∷ word) → EndsWord cs → diab_words ((x ∷ word) ++ cs) ≡ (x ∷ word) ∷ diab_words cs
words-word x word _ none nothing = ap diab_words (append-nil (x ∷ word)) ∙ rw (only_part (x ∷ word) none) refl
words-word x word _ none (white c cs h) = rw (first_part (x ∷ word) c cs none h, words-gap c cs h) refl

-- ---- the items of `split_whitespace`

record IsPast (bs gs rest : List ℕ) : Type 0 where
  utf8 : IsUtf8 rest
  chars_are : chars bs ≡ gs ++ chars rest

past : (gs bs rest : List ℕ) → IsUtf8 bs → bs ≡ encode_utf8_all gs ++ rest → IsPast bs gs rest
past [] bs rest u e = record { utf8 = subst IsUtf8 e u; chars_are = ap chars e }
past (g ∷ gs) bs rest u e =
    let splits : bs ≡ encode_utf8 g ++ (encode_utf8_all gs ++ rest) = e ∙ append_assoc (encode_utf8 g) (encode_utf8_all gs) rest in
    let after = past gs (encode_utf8_all gs ++ rest) rest (IsUtf8-past_char bs _ g u splits) refl in
    record { utf8 = after.utf8; chars_are = chars_past_char bs _ g u splits ∙ ap (λ (cs : List ℕ). g ∷ cs) after.chars_are }

not_false : (b : Bool) → not b ≡ false → b ≡ true
not_false true h = refl
not_false false h = absurd (false≢true (sym h))

blank : (c : ℕ) → is_not_whitespace c ≡ false → is_white_space c ≡ true
blank c h = not_false (is_white_space c) h

gap_words : (gs cs : List ℕ) → NonePass is_not_whitespace gs → diab_words (gs ++ cs) ≡ diab_words cs
gap_words [] cs none = refl
gap_words (g ∷ gs) cs none = words-gap g (gs ++ cs) (blank g none.0) ∙ gap_words gs cs none.1

ends_word : (rest more : List ℕ) → IsUtf8 rest → EmptyOrStartsWithPassing is_whitespace rest more → EndsWord (chars rest)
ends_word [] more u h = rw chars-nil nothing
ends_word (b ∷ bs) more u h =
    let first = h (omega arith) in
    rw (chars_past_char (b ∷ bs) more first.0 u first.2) (white first.0 (chars more) first.1)

pub record TakesWord (bs word rest : List ℕ) : Type 0 where
  pub utf8 : IsUtf8 rest
  pub words : map encode_utf8_all (diab_words (chars bs)) ≡ word ∷ map encode_utf8_all (diab_words (chars rest))

taken : (bs rest gs ws : List ℕ) → IsUtf8 bs → bs ≡ encode_utf8_all gs ++ (encode_utf8_all ws ++ rest) → 0 < length (encode_utf8_all ws)
    → NonePass is_not_whitespace gs → NonePass is_whitespace ws → (more : List ℕ) → EmptyOrStartsWithPassing is_whitespace rest more → TakesWord bs (encode_utf8_all ws) rest
taken bs rest gs [] u e some blanks none more ends = absurd (omega arith)
taken bs rest gs (w ∷ ws) u e some blanks none more ends =
    let after_gap = past gs bs (encode_utf8_all (w ∷ ws) ++ rest) u e in
    let after_word = past (w ∷ ws) (encode_utf8_all (w ∷ ws) ++ rest) rest after_gap.utf8 refl in
    record {
      utf8 = after_word.utf8;
      words = ap (map encode_utf8_all) (
          ap diab_words (after_gap.chars_are ∙ ap (λ (cs : List ℕ). gs ++ cs) after_word.chars_are)
          ∙ gap_words gs ((w ∷ ws) ++ chars rest) blanks
          ∙ words-word w ws (chars rest) none (ends_word rest more after_word.utf8 ends));
    }

pub takes_word : (bs word rest : List ℕ) → IsUtf8 bs → (gap : List ℕ) × (bs ≡ gap ++ (word ++ rest)) × (0 < length word) × NoCharPasses is_not_whitespace gap
    × NoCharPasses is_whitespace word × ((more : List ℕ) × EmptyOrStartsWithPassing is_whitespace rest more) → TakesWord bs word rest
takes_word bs word rest u item =
    let gs = item.3 in
    let ws = item.4 in
    let P : List ℕ → Type 0 = λ v. TakesWord bs v rest in
    let splits : bs ≡ encode_utf8_all gs.0 ++ (encode_utf8_all ws.0 ++ rest) = rw (gs.1, ws.1) item.1 in
    let some : 0 < length (encode_utf8_all ws.0) = rw ws.1 item.2 in
    subst P ws.1 (taken bs rest gs.0 ws.0 u splits some gs.2 ws.2 item.5.0 item.5.1)

pub no_words : (bs : List ℕ) → IsUtf8 bs → NoCharPasses is_not_whitespace bs → map encode_utf8_all (diab_words (chars bs)) ≡ []
no_words bs u none =
    let after = past none.0 bs [] u (rw (append-nil, none.1) refl) in
    ap (λ (cs : List ℕ). map encode_utf8_all (diab_words cs)) after.chars_are ∙ ap (map encode_utf8_all) (gap_words none.0 (chars []) none.2) ∙ rw chars-nil refl

pub arguments-quote : (text : List ℕ) → list_any is_quote text ≡ true → diab_arguments text ≡ None
unfolding diab_arguments
arguments-quote text h = rw h refl

pub arguments-plain : (text : List ℕ) → list_any is_quote text ≡ false → diab_arguments text ≡ Some (map encode_utf8_all (diab_words text))
unfolding diab_arguments
arguments-plain text h = rw h refl

pub ruleset argument_rules = (arguments-quote, arguments-plain)

pub step-word : (done done' total : List (List ℕ)) (bs word rest : List ℕ) → TakesWord bs word rest → done ++ map encode_utf8_all (diab_words (chars bs)) ≡ total
    → done' ≡ done ++ word ∷ [] → done' ++ map encode_utf8_all (diab_words (chars rest)) ≡ total
step-word done done' total bs word rest taken e d = rw (d, append_assoc) (rw taken.words at e)
