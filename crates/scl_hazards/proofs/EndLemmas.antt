-- The ends of words, by which a word that is a flag and its delimiter is found.
use Rattle.std.proofs.Common.{◌≡◌, ℕ, ◌<◌, ◌+◌, ◌==◌, true, false, cond, Bool, List, [], ◌∷◌, ◌++◌, length, take, refl, sym, ap, ◌∙◌, arith, get_or, Bor}
use Rattle.std.specs.Prelude.{Vec, ◌&&◌, ◌||◌}
use Rattle.std.specs.BTreeSet.{BTreeSet, contains, Updates}
use Rattle.std.specs.Cmp.{nat_eq_equiv}
use Rattle.std.specs.List.{list_any}
use Rattle.std.specs.Ordering.{is_eq}
use Rattle.std.specs.Str.{bytes_eq}
use Rattle.std.specs.declared.alloc.Global.{Global}
use Rattle.std.proofs.lemmas.List.{map_more}
use Rattle.std.proofs.lemmas.List.Folds.{list_any-append}
use Rattle.std.proofs.lemmas.Map.Text.{is_eq-slice_cmp}
use Rattle.scl_values.specs.Words.{words_of}
use Rattle.scl_hazards.specs.Options.{is_delimited, end_cmp, HasEnds}

-- ---- answers of tests

and_no : (b : Bool) → (b && false) ≡ false
and_no true = refl
and_no false = refl

by_head : (a b c d e : Bool) → (b && c) ≡ (e && d) → ((a && b) && c) ≡ (e && (a && d))
by_head true b c d e h = h
by_head false b c d e h = sym (and_no e)

joined : (t k : Bool) → cond t true k ≡ (k || (t || false))
joined true true = refl
joined true false = refl
joined false true = refl
joined false false = refl

or_none : (b : Bool) → (b || (false || false)) ≡ b
or_none true = refl
or_none false = refl

-- ---- one word

at_end : (flag front : List ℕ) (delimiter last : ℕ) → is_delimited flag delimiter (front ++ last ∷ []) ≡ ((last == delimiter) && bytes_eq front flag)
at_end [] [] delimiter last = refl
at_end [] (f ∷ []) delimiter last = and_no (f == delimiter) ∙ sym (and_no (last == delimiter))
at_end [] (f ∷ g ∷ front) delimiter last = and_no (f == delimiter) ∙ sym (and_no (last == delimiter))
at_end (x ∷ []) [] delimiter last = and_no _ ∙ sym (and_no (last == delimiter))
at_end (x ∷ y ∷ flag) [] delimiter last = and_no _ ∙ sym (and_no (last == delimiter))
at_end (x ∷ flag) (f ∷ front) delimiter last =
    by_head (x == f) _ _ (bytes_eq front flag) (last == delimiter) (at_end flag front delimiter last)
    ∙ ap (λ b. (last == delimiter) && (b && bytes_eq front flag)) (nat_eq_equiv.symm x f)

no_end : (flag : List ℕ) (delimiter : ℕ) → is_delimited flag delimiter [] ≡ false
no_end [] delimiter = refl
no_end (x ∷ flag) delimiter = refl

found : (key end : ℕ × Bor (List ℕ)) (word : List ℕ) → word ≡ key.1.now ++ key.0 ∷ [] → is_eq (end_cmp key end) ≡ is_delimited end.1.now end.0 word
found key end word is =
    is_eq-slice_cmp (key.0 ∷ key.1.now) (end.0 ∷ end.1.now)
    ∙ sym (at_end end.1.now key.1.now end.0 key.0)
    ∙ ap (is_delimited end.1.now end.0) (sym is)

-- ---- one word more

none_of : (word : List ℕ) → length word ≡ 0 → (flag : List ℕ) (delimiter : ℕ) → is_delimited flag delimiter word ≡ false
none_of [] is flag delimiter = no_end flag delimiter
none_of (byte ∷ word) is flag delimiter = absurd (omega (arith, is))

module _ (words : List (Vec ℕ Global)) (i : ℕ) (word : Vec ℕ Global) (within : i < length words) (is : word ≡ get_or words i word) where
  more : (p : List ℕ → Bool) → list_any p (words_of (take (i + 1) words)) ≡ (list_any p (words_of (take i words)) || (p word.items || false))
  more p =
      ap (list_any p) (map_more (λ (w : Vec ℕ Global). w.items) words i word within ∙ ap (λ (w : Vec ℕ Global). words_of (take i words) ++ w.items ∷ []) (sym is))
      ∙ list_any-append p (words_of (take i words)) (word.items ∷ [])

  pub ends-more : (key : ℕ × Bor (List ℕ)) (old new : BTreeSet (ℕ × Bor (List ℕ))) → word.items ≡ key.1.now ++ key.0 ∷ [] → Updates end_cmp old new key true → HasEnds old (words_of (take i words)) → HasEnds new (words_of (take (i + 1) words))
  ends-more key old new e updates known end =
      let p = is_delimited end.1.now end.0 in
      updates.0 end
      ∙ ap (λ b. cond b true (contains end_cmp old end)) (found key end word.items e)
      ∙ ap (λ b. cond (p word.items) true b) (known end)
      ∙ joined (p word.items) (list_any p (words_of (take i words)))
      ∙ sym (more p)

  pub ends-same : (old : BTreeSet (ℕ × Bor (List ℕ))) → length word.items ≡ 0 → HasEnds old (words_of (take i words)) → HasEnds old (words_of (take (i + 1) words))
  ends-same old e known end =
      let p = is_delimited end.1.now end.0 in
      known end
      ∙ sym (or_none (list_any p (words_of (take i words))))
      ∙ ap (λ b. list_any p (words_of (take i words)) || (b || false)) (sym (none_of word.items e end.1.now end.0))
      ∙ sym (more p)
