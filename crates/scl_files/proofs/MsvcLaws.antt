-- The laws of MSVC texts.
use Rattle.std.proofs.Common.{◌≡◌, ◌↔◌, ℕ, ◌+◌, ◌/◌, ◌%◌, ◌<◌, ◌==◌, ◌&&◌, not, Bool, true, false, cond, List, [], ◌∷◌, ◌++◌, map, length, encode_utf8, encode_utf8_all, refl, sym, ap, subst, ◌∙◌, append_assoc, arith, ◌⊎◌, inl, inr, length-append, lit<}
use Rattle.std.proofs.lemmas.List.{append-nil}
use Rattle.std.proofs.lemmas.Bool.{eqb-true, false≢true, cases_Bool}
use Rattle.std.proofs.lemmas.Grind.{flat_map-append}
use Rattle.std.proofs.lemmas.Str.{length-encode, len_utf8_bounds, encode_ascii}
use Rattle.std.proofs.lemmas.List.Folds.{list_all-append}
use Rattle.std.specs.List.{list_all, join_with_byte}
use Rattle.scl_values.specs.Each.{Each}
use Rattle.scl_files.specs.MsvcText.{is_msvc_separator, is_even, leads_to_quote, Place, split, means, keep_stretch, stretches, place_meaning, stretch_meaning, is_toggle, OnlyQuotesGiveEmptyArguments, leads_to_quote_or_end, in_double_quotes, msvc_quoted, QuotedWordsAreReadBack}
use Rattle.scl_files.specs.MsvcReader.{backslashes, read_on}
use Rattle.scl_files.proofs.MsvcLemmas.{places_on, msvc_stretches-on, msvc_arguments-read, backslashes-more}

-- ---- empty arguments

abbrev EmptyByQuotes : List Place → Type 0
EmptyByQuotes stretch = (stretch_meaning stretch ≡ []) ↔ (list_all is_toggle stretch ≡ true)

toggles_mean_nothing : (stretch : List Place) → list_all is_toggle stretch ≡ true → stretch_meaning stretch ≡ []
toggles_mean_nothing [] h = refl
toggles_mean_nothing (split ∷ ps) h = absurd (false≢true h)
toggles_mean_nothing (means c (b ∷ bs) ∷ ps) h = absurd (false≢true h)
toggles_mean_nothing (means c [] ∷ ps) h = toggles_mean_nothing ps (and_right (c == 34) (list_all is_toggle ps) h)
  where
    and_right : (a b : Bool) → (a && b) ≡ true → b ≡ true
    and_right true b h = h
    and_right false b h = absurd (false≢true h)

-- What is known of a stretch that has begun, before these characters and after n backslashes. It means something; or it has
-- only toggling quotes; or its last backslash means nothing and a quote follows.
data Begun (stretch : List Place) (n : ℕ) (cs : List ℕ) : Type 0 where
  shows : 0 < length (stretch_meaning stretch) → Begun stretch n cs
  toggling : list_all is_toggle stretch ≡ true → n ≡ 0 → Begun stretch n cs
  hides : is_even n ≡ false → leads_to_quote cs ≡ true → Begun stretch n cs

length-push : (stretch : List Place) (c : ℕ) (bytes : List ℕ) → length (stretch_meaning (stretch ++ means c bytes ∷ [])) ≡ length (stretch_meaning stretch) + length bytes
length-push stretch c bytes = ap length (flat_map-append place_meaning stretch (means c bytes ∷ [])) ∙ (length-append (stretch_meaning stretch) (bytes ++ []) ∙ rw append-nil refl)

shows-push : (stretch : List Place) (c n : ℕ) (bytes cs : List ℕ) → 0 < length (stretch_meaning stretch) → Begun (stretch ++ means c bytes ∷ []) n cs
shows-push stretch c n bytes cs h = shows (rw length-push (omega arith))

shows-last : (stretch : List Place) (c n : ℕ) (bytes cs : List ℕ) → 0 < length bytes → Begun (stretch ++ means c bytes ∷ []) n cs
shows-last stretch c n bytes cs h = shows (rw length-push (omega arith))

done : (stretch : List Place) (n : ℕ) (cs : List ℕ) → leads_to_quote cs ≡ false → Begun stretch n cs → EmptyByQuotes stretch
done stretch n cs last (shows h) = (λ e. absurd (omega (arith, ap length e)), toggles_mean_nothing stretch)
done stretch n cs last (toggling h z) = (λ e. h, toggles_mean_nothing stretch)
done stretch n cs last (hides h q) = absurd (false≢true (sym last ∙ q))

keep_each : (stretch : List Place) (others : List (List Place)) → EmptyByQuotes stretch → Each EmptyByQuotes others → Each EmptyByQuotes (keep_stretch stretch others)
keep_each [] others h each = each
keep_each (p ∷ ps) others h each = (h, each)

abbrev EachFrom : List ℕ → Type 0
EachFrom cs = (stretch : List Place) (n : ℕ) (inside : Bool) → Begun stretch n cs → Each EmptyByQuotes (stretches stretch (places_on n inside cs))

begun-slash : (stretch : List Place) (n : ℕ) (cs : List ℕ) → (leads_to_quote cs ≡ true) ⊎ (leads_to_quote cs ≡ false) → Begun stretch n (92 ∷ cs)
    → Begun (stretch ++ means 92 (cond (leads_to_quote cs && is_even n) [] (92 ∷ [])) ∷ []) (n + 1) cs
begun-slash stretch n cs q (shows h) = shows-push stretch 92 (n + 1) _ cs h
begun-slash stretch n cs (inl q) (toggling h z) = hides (rw z refl) q
begun-slash stretch n cs (inr q) (toggling h z) = rw q (shows-last stretch 92 (n + 1) (92 ∷ []) cs (omega arith))
begun-slash stretch n cs q (hides h l) = rw (l, h) (shows-last stretch 92 (n + 1) (92 ∷ []) cs (omega arith))

begun-quote : (stretch : List Place) (n : ℕ) (cs : List ℕ) → Begun stretch n (34 ∷ cs) → Begun (stretch ++ means 34 (cond (is_even n) [] (34 ∷ [])) ∷ []) 0 cs
begun-quote stretch n cs (shows h) = shows-push stretch 34 0 _ cs h
begun-quote stretch n cs (toggling h z) = rw z (toggling (rw (list_all-append is_toggle stretch (means 34 [] ∷ []), h) refl) refl)
begun-quote stretch n cs (hides h l) = rw h (shows-last stretch 34 0 (34 ∷ []) cs (omega arith))

each_other : (c : ℕ) (cs : List ℕ) → EachFrom cs → (c == 92) ≡ false → (c == 34) ≡ false → (stretch : List Place) (n : ℕ) (inside : Bool)
    → ((is_msvc_separator c && not inside) ≡ true) ⊎ ((is_msvc_separator c && not inside) ≡ false) → Begun stretch n (c ∷ cs)
    → Each EmptyByQuotes (stretches stretch (places_on n inside (c ∷ cs)))
each_other c cs ih h k stretch n inside (inl s) b = rw (s, h, k) (keep_each stretch (stretches [] (places_on 0 inside cs)) (done stretch n (c ∷ cs) (rw (h, k) refl) b) (ih [] 0 inside (toggling refl refl)))
each_other c cs ih h k stretch n inside (inr s) b = rw (s, h, k) (ih (stretch ++ means c (encode_utf8 c) ∷ []) 0 inside (shows-last stretch c 0 (encode_utf8 c) cs (omega (arith, length-encode c, len_utf8_bounds c))))

each_char : (c : ℕ) (cs : List ℕ) → EachFrom cs → ((c == 92) ≡ true) ⊎ ((c == 92) ≡ false) → ((c == 34) ≡ true) ⊎ ((c == 34) ≡ false) → EachFrom (c ∷ cs)
each_char c cs ih (inl h) k = let P : ℕ → Type 0 = λ x. EachFrom (x ∷ cs) in
    subst P (sym (eqb-true c 92 h)) (λ stretch n inside b. ih _ (n + 1) inside (begun-slash stretch n cs (cases_Bool (leads_to_quote cs)) b))
each_char c cs ih (inr h) (inl k) = let P : ℕ → Type 0 = λ x. EachFrom (x ∷ cs) in
    subst P (sym (eqb-true c 34 k)) (λ stretch n inside b. ih _ 0 (cond (is_even n) (not inside) inside) (begun-quote stretch n cs b))
each_char c cs ih (inr h) (inr k) = λ stretch n inside b. each_other c cs ih h k stretch n inside (cases_Bool (is_msvc_separator c && not inside)) b

each : (cs : List ℕ) → EachFrom cs
each [] = λ stretch n inside b. keep_each stretch [] (done stretch n [] refl b) tt
each (c ∷ cs) = each_char c cs (each cs) (cases_Bool (c == 92)) (cases_Bool (c == 34))

pub only_quotes_give_empty_arguments : OnlyQuotesGiveEmptyArguments
only_quotes_give_empty_arguments = λ text. rw msvc_stretches-on (each text [] 0 false (toggling refl refl))

-- ---- quoted words

-- the number of backslashes before the rest of a quoted word, if the word has n of them there
abbrev pending : List ℕ → ℕ → ℕ
pending word n = cond (leads_to_quote_or_end word) (n + n) n

abbrev ReadsQuoted : List ℕ → Type 0
ReadsQuoted word = (begun rest : List ℕ) (n : ℕ) → read_on true begun (pending word n) true (in_double_quotes word ++ rest) ≡ read_on true ((begun ++ backslashes n) ++ encode_utf8_all word) 0 false rest

double_even : (n : ℕ) → is_even (n + n) ≡ true
double_even n = let e : (n + n) % 2 ≡ 0 = omega arith in rw e refl

double_odd : (n : ℕ) → is_even (n + n + 1) ≡ false
double_odd n = let e : (n + n + 1) % 2 ≡ 1 = omega arith in rw e refl

double_half : (n : ℕ) → (n + n) / 2 ≡ n
double_half n = omega arith

double_half_more : (n : ℕ) → (n + n + 1) / 2 ≡ n
double_half_more n = omega arith

backslashes-out : (begun more : List ℕ) (n : ℕ) → (begun ++ backslashes (n + 1)) ++ more ≡ (begun ++ backslashes n) ++ (encode_utf8 92 ++ more)
backslashes-out begun more n = rw (encode_ascii 92 (lit< tt), ← backslashes-more n) (simp append_assoc)

two_more : (n : ℕ) → n + n + 1 + 1 ≡ n + 1 + (n + 1)
two_more n = omega arith

cond-same : (b : Bool) (n : ℕ) → cond b n n ≡ n
cond-same true n = refl
cond-same false n = refl

fresh : (word begun rest : List ℕ) → ReadsQuoted word → read_on true begun 0 true (in_double_quotes word ++ rest) ≡ read_on true (begun ++ encode_utf8_all word) 0 false rest
fresh word begun rest ih = rw (cond-same (leads_to_quote_or_end word) 0, append-nil) at (ih begun rest 0)

and-false : (b : Bool) → (b && false) ≡ false
and-false true = refl
and-false false = refl

read_slash : (word : List ℕ) → ReadsQuoted word → (leads_to_quote_or_end word ≡ true) ⊎ (leads_to_quote_or_end word ≡ false) → ReadsQuoted (92 ∷ word)
read_slash word ih (inl q) = λ begun rest n. rw q (
    ap (λ (k : ℕ). read_on true begun k true (in_double_quotes word ++ rest)) (two_more n)
    ∙ (rw q at (ih begun rest (n + 1)))
    ∙ ap (λ (b : List ℕ). read_on true b 0 false rest) (backslashes-out begun (encode_utf8_all word) n))
read_slash word ih (inr q) = λ begun rest n. rw q ((rw q at (ih begun rest (n + 1))) ∙ ap (λ (b : List ℕ). read_on true b 0 false rest) (backslashes-out begun (encode_utf8_all word) n))

read_quote : (word : List ℕ) → ReadsQuoted word → ReadsQuoted (34 ∷ word)
read_quote word ih = λ begun rest n. rw (double_odd n, double_half_more n) (fresh word ((begun ++ backslashes n) ++ 34 ∷ []) rest ih ∙ rw (encode_ascii 34 (lit< tt), append_assoc) refl)

read_other : (c : ℕ) (word : List ℕ) → ReadsQuoted word → (c == 92) ≡ false → (c == 34) ≡ false → ReadsQuoted (c ∷ word)
read_other c word ih h k = λ begun rest n. rw (h, k, h, k, and-false (is_msvc_separator c)) (fresh word ((begun ++ backslashes n) ++ encode_utf8 c) rest ih ∙ rw append_assoc refl)

read_char : (c : ℕ) (word : List ℕ) → ReadsQuoted word → ((c == 92) ≡ true) ⊎ ((c == 92) ≡ false) → ((c == 34) ≡ true) ⊎ ((c == 34) ≡ false) → ReadsQuoted (c ∷ word)
read_char c word ih (inl h) k = let P : ℕ → Type 0 = λ x. ReadsQuoted (x ∷ word) in subst P (sym (eqb-true c 92 h)) (read_slash word ih (cases_Bool (leads_to_quote_or_end word)))
read_char c word ih (inr h) (inl k) = let P : ℕ → Type 0 = λ x. ReadsQuoted (x ∷ word) in subst P (sym (eqb-true c 34 k)) (read_quote word ih)
read_char c word ih (inr h) (inr k) = read_other c word ih h k

read_in_quotes : (word : List ℕ) → ReadsQuoted word
read_in_quotes [] = λ begun rest n. rw (double_even n, double_half n, append-nil) refl
read_in_quotes (c ∷ word) = read_char c word (read_in_quotes word) (cases_Bool (c == 92)) (cases_Bool (c == 34))

words_read : (words : List (List ℕ)) → read_on false [] 0 false (join_with_byte 32 (map msvc_quoted words)) ≡ map encode_utf8_all words
words_read [] = refl
words_read (word ∷ []) =
    ap (read_on true [] 0 true) (sym (append-nil (in_double_quotes word))) ∙ fresh word [] [] (read_in_quotes word) ∙ rw append-nil refl
words_read (word ∷ (next ∷ words)) =
    fresh word [] (32 ∷ join_with_byte 32 (map msvc_quoted (next ∷ words))) (read_in_quotes word)
    ∙ rw append-nil (ap (λ (ws : List (List ℕ)). encode_utf8_all word ∷ ws) (words_read (next ∷ words)))

pub quoted_words_are_read_back : QuotedWordsAreReadBack
quoted_words_are_read_back = λ words. msvc_arguments-read _ ∙ words_read words

pub ruleset msvc_laws = (only_quotes_give_empty_arguments, quoted_words_are_read_back)
