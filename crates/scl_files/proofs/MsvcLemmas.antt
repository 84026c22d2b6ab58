-- Reading an MSVC text from the front gives what its places mean.
use Rattle.std.proofs.Common.{◌≡◌, ◌≢◌, ℕ, zero, suc, ◌+◌, ◌/◌, ◌%◌, ◌<◌, ◌==◌, ◌&&◌, not, Bool, true, false, cond, List, [], ◌∷◌, ◌++◌, length, drop, get_or, map, encode_utf8, Option, Some, None, refl, sym, ap, subst, ◌∙◌, append_assoc, add-one, arith}
use Rattle.std.proofs.lemmas.List.{append-nil, replicate-append-replicate}
use Rattle.std.proofs.Common.{◌⊎◌, inl, inr}
use Rattle.std.proofs.lemmas.Bool.{false≢true, cases_Bool}
use Rattle.std.proofs.lemmas.Bool.{eqb-true}
use Rattle.std.proofs.Common.{length-append}
use Rattle.std.proofs.lemmas.Str.{chars_past_char, chars-nil, length-encode, len_utf8_bounds}
use Rattle.std.specs.Str.{chars, IsUtf8}
use Rattle.std.specs.String.{string_bytes}
use Rattle.std.proofs.lemmas.Grind.{flat_map-append}
use Rattle.scl_files.specs.MsvcReader.{reads, TakesChar, backslashes, read_on}
use Rattle.scl_files.specs.declared.msvc_text.Reader.{Reader}
use Rattle.scl_files.specs.MsvcText.{is_msvc_separator, is_even, backslashes_before, is_inside, leads_to_quote, meaning, Place, split, means, places, keep_stretch, stretches, place_meaning, stretch_meaning, msvc_stretches, msvc_arguments}

-- the places, with what is known of the characters before them
abbrev pub places_on : ℕ → Bool → List ℕ → List Place
places_on n inside [] = []
places_on n inside (c ∷ cs) =
    cond (is_msvc_separator c && not inside) split (means c (meaning n (leads_to_quote cs) c))
    ∷ places_on (cond (c == 92) (n + 1) 0) (cond (c == 34 && is_even n) (not inside) inside) cs

first_left : (text : List ℕ) (i c : ℕ) (cs : List ℕ) → drop i text ≡ c ∷ cs → (get_or text i 0 ≡ c) × (drop (suc i) text ≡ cs)
first_left [] zero c cs e = (cc, cc)
first_left [] (suc i) c cs e = (cc, cc)
first_left (x ∷ xs) zero c cs e = (cc, cc)
first_left (x ∷ xs) (suc i) c cs e = first_left xs i c cs e

cons_same : (p : Place) (a b : List Place) → a ≡ b → p ∷ a ≡ p ∷ b
cons_same p a b e = rw e refl

places_are : (text cs : List ℕ) (i : ℕ) → drop i text ≡ cs → places text i (length cs) ≡ places_on (backslashes_before text i) (is_inside text i) cs
places_are text [] i e = refl
places_are text (c ∷ cs) i e =
    let here = first_left text i c cs e in
    let more = places_are text cs (suc i) here.1 in
    rw (add-one, here.0, here.1) (cons_same _ _ _ (rw here.0 at more))

pub msvc_stretches-on : (text : List ℕ) → msvc_stretches text ≡ stretches [] (places_on 0 false text)
msvc_stretches-on text = ap (stretches []) (places_are text text 0 refl)

-- ---- the arguments of places, with the bytes of the one that has begun

-- an argument before the others, if it has begun
abbrev keep_begun : Option (List ℕ) → List (List ℕ) → List (List ℕ)
keep_begun None arguments = arguments
keep_begun (Some bytes) arguments = bytes ∷ arguments

abbrev begun_with : Option (List ℕ) → List ℕ → List ℕ
begun_with None bytes = bytes
begun_with (Some before) bytes = before ++ bytes

abbrev bytes_from : Option (List ℕ) → List Place → List (List ℕ)
bytes_from begun [] = keep_begun begun []
bytes_from begun (split ∷ ps) = keep_begun begun (bytes_from None ps)
bytes_from begun (means c bytes ∷ ps) = bytes_from (Some (begun_with begun bytes)) ps

abbrev begun_of : List Place → Option (List ℕ)
begun_of [] = None
begun_of (p ∷ ps) = Some (stretch_meaning (p ∷ ps))

kept : (begun : List Place) (others : List (List Place)) → map stretch_meaning (keep_stretch begun others) ≡ keep_begun (begun_of begun) (map stretch_meaning others)
kept [] others = refl
kept (p ∷ ps) others = refl

begun_of-push : (begun : List Place) (c : ℕ) (bytes : List ℕ) → begun_of (begun ++ means c bytes ∷ []) ≡ Some (begun_with (begun_of begun) bytes)
begun_of-push [] c bytes = rw append-nil refl
begun_of-push (p ∷ ps) c bytes = ap Some (flat_map-append place_meaning (p ∷ ps) (means c bytes ∷ []) ∙ rw append-nil refl)

meanings : (ps begun : List Place) → map stretch_meaning (stretches begun ps) ≡ bytes_from (begun_of begun) ps
meanings [] begun = kept begun []
meanings (split ∷ ps) begun = kept begun (stretches [] ps) ∙ ap (keep_begun (begun_of begun)) (meanings ps [])
meanings (means c bytes ∷ ps) begun = meanings ps (begun ++ means c bytes ∷ []) ∙ ap (λ (o : Option (List ℕ)). bytes_from o ps) (begun_of-push begun c bytes)

-- ---- reading on

-- what n backslashes mean, by whether a quote follows
abbrev shown : ℕ → Bool → List ℕ
shown n quoted = cond quoted (backslashes (n / 2)) (backslashes n)

abbrev Same : List ℕ → Type 0
Same cs = ((n : ℕ) (inside : Bool) (b : List ℕ) → bytes_from (Some (b ++ shown n (leads_to_quote cs))) (places_on n inside cs) ≡ read_on true b n inside cs)
    × (bytes_from None (places_on 0 false cs) ≡ read_on false [] 0 false cs)

half_even : (n : ℕ) → is_even n ≡ true → (n + 1) / 2 ≡ n / 2
half_even n h = let e : n % 2 ≡ 0 = eqb-true (n % 2) 0 h in omega arith

half_odd : (n : ℕ) → is_even n ≡ false → (n + 1) / 2 ≡ n / 2 + 1
half_odd n h = let e : n % 2 ≢ 0 = grind arith in omega arith

pub backslashes-more : (n : ℕ) → backslashes n ++ 92 ∷ [] ≡ backslashes (n + 1)
backslashes-more n = replicate-append-replicate n 1 92

shown-more : (n : ℕ) (quoted : Bool) (b : List ℕ) → (quoted ≡ false) ⊎ (quoted ≡ true) → (is_even n ≡ true) ⊎ (is_even n ≡ false)
    → (b ++ shown n quoted) ++ cond (quoted && is_even n) [] (92 ∷ []) ≡ b ++ shown (n + 1) quoted
shown-more n quoted b (inl q) h = rw (q, append_assoc, backslashes-more) refl
shown-more n quoted b (inr q) (inl h) = rw (q, h, half_even n h, append-nil) refl
shown-more n quoted b (inr q) (inr h) = rw (q, h, half_odd n h, append_assoc, backslashes-more) refl

flip_cases : (b : Bool) → (b ≡ false) ⊎ (b ≡ true)
flip_cases true = inr refl
flip_cases false = inl refl

shown-zero : (quoted : Bool) (b : List ℕ) → b ++ shown 0 quoted ≡ b
shown-zero true b = append-nil b
shown-zero false b = append-nil b

fresh : (cs b : List ℕ) (inside : Bool) → Same cs → bytes_from (Some b) (places_on 0 inside cs) ≡ read_on true b 0 inside cs
fresh cs b inside ih = rw (shown-zero (leads_to_quote cs) b) at (ih.0 0 inside b)

Begun : ℕ → List ℕ → ℕ → Bool → List ℕ → Type 0
Begun c cs n inside b = bytes_from (Some (b ++ shown n (leads_to_quote (c ∷ cs)))) (places_on n inside (c ∷ cs)) ≡ read_on true b n inside (c ∷ cs)

at_slash : (cs : List ℕ) (n : ℕ) (inside : Bool) (b : List ℕ) → Same cs → Begun 92 cs n inside b
unfolding Begun
at_slash cs n inside b ih = rw (shown-more n (leads_to_quote cs) b (flip_cases (leads_to_quote cs)) (cases_Bool (is_even n))) (ih.0 (n + 1) inside b)

at_quote : (cs : List ℕ) (n : ℕ) (inside : Bool) (b : List ℕ) → Same cs → (is_even n ≡ true) ⊎ (is_even n ≡ false) → Begun 34 cs n inside b
unfolding Begun
at_quote cs n inside b ih (inl h) = rw (h, append-nil) (fresh cs (b ++ backslashes (n / 2)) (not inside) ih)
at_quote cs n inside b ih (inr h) = rw h (fresh cs ((b ++ backslashes (n / 2)) ++ 34 ∷ []) inside ih)

not_inside : (s inside : Bool) → (s && not inside) ≡ true → inside ≡ false
not_inside true false h = refl
not_inside true true h = sym h
not_inside false inside h = absurd (false≢true h)

at_other : (c : ℕ) (cs : List ℕ) (n : ℕ) (inside : Bool) (b : List ℕ) → Same cs → (c == 92) ≡ false → (c == 34) ≡ false
    → ((is_msvc_separator c && not inside) ≡ true) ⊎ ((is_msvc_separator c && not inside) ≡ false) → Begun c cs n inside b
unfolding Begun
at_other c cs n inside b ih h k (inl s) = rw (s, h, k, not_inside (is_msvc_separator c) inside s) (ap (λ (ws : List (List ℕ)). (b ++ backslashes n) ∷ ws) ih.1)
at_other c cs n inside b ih h k (inr s) = rw (s, h, k) (fresh cs ((b ++ backslashes n) ++ encode_utf8 c) inside ih)

begun_at : (c : ℕ) (cs : List ℕ) (n : ℕ) (inside : Bool) (b : List ℕ) → Same cs → ((c == 92) ≡ true) ⊎ ((c == 92) ≡ false) → ((c == 34) ≡ true) ⊎ ((c == 34) ≡ false) → Begun c cs n inside b
begun_at c cs n inside b ih (inl h) k = let P : ℕ → Type 0 = λ x. Begun x cs n inside b in subst P (sym (eqb-true c 92 h)) (at_slash cs n inside b ih)
begun_at c cs n inside b ih (inr h) (inl k) = let P : ℕ → Type 0 = λ x. Begun x cs n inside b in subst P (sym (eqb-true c 34 k)) (at_quote cs n inside b ih (cases_Bool (is_even n)))
begun_at c cs n inside b ih (inr h) (inr k) = at_other c cs n inside b ih h k (cases_Bool (is_msvc_separator c && not inside))

None_at : ℕ → List ℕ → Type 0
None_at c cs = bytes_from None (places_on 0 false (c ∷ cs)) ≡ read_on false [] 0 false (c ∷ cs)

none_slash : (cs : List ℕ) → Same cs → None_at 92 cs
unfolding None_at
none_slash cs ih = rw (← shown-more 0 (leads_to_quote cs) [] (flip_cases (leads_to_quote cs)) (inl refl), shown-zero (leads_to_quote cs) []) at (ih.0 1 false [])

none_other : (c : ℕ) (cs : List ℕ) → Same cs → (c == 92) ≡ false → (c == 34) ≡ false → (is_msvc_separator c ≡ true) ⊎ (is_msvc_separator c ≡ false) → None_at c cs
unfolding None_at
none_other c cs ih h k (inl s) = rw (s, h, k) ih.1
none_other c cs ih h k (inr s) = rw (s, h, k) (fresh cs (encode_utf8 c) false ih)

none_at : (c : ℕ) (cs : List ℕ) → Same cs → ((c == 92) ≡ true) ⊎ ((c == 92) ≡ false) → ((c == 34) ≡ true) ⊎ ((c == 34) ≡ false) → None_at c cs
unfolding None_at
none_at c cs ih (inl h) k = let P : ℕ → Type 0 = λ x. None_at x cs in subst P (sym (eqb-true c 92 h)) (none_slash cs ih)
none_at c cs ih (inr h) (inl k) = let P : ℕ → Type 0 = λ x. None_at x cs in subst P (sym (eqb-true c 34 k)) (fresh cs [] true ih)
none_at c cs ih (inr h) (inr k) = none_other c cs ih h k (cases_Bool (is_msvc_separator c))

both : (cs : List ℕ) → Same cs
unfolding Begun None_at
both [] = (λ n inside b. refl, refl)
both (c ∷ cs) = (λ n inside b. begun_at c cs n inside b (both cs) (cases_Bool (c == 92)) (cases_Bool (c == 34)), none_at c cs (both cs) (cases_Bool (c == 92)) (cases_Bool (c == 34)))

pub msvc_arguments-read : (text : List ℕ) → msvc_arguments text ≡ read_on false [] 0 false text
unfolding msvc_arguments
msvc_arguments-read text = ap (map stretch_meaning) (msvc_stretches-on text) ∙ meanings (places_on 0 false text) [] ∙ (both text).1

-- ---- a step of the reader

pub char_taken : (bs rest : List ℕ) (c : ℕ) (total : List (List ℕ)) (s t : Reader) (ends : Bool) → IsUtf8 bs → bs ≡ encode_utf8 c ++ rest → reads s (chars bs) ≡ total → TakesChar s c ends t
    → cond ends (string_bytes t.argument ∷ read_on false [] 0 false (chars rest)) (reads t (chars rest)) ≡ total
char_taken bs rest c total s t ends u e h take = sym (take (chars rest)) ∙ (rw (chars_past_char bs rest c u e) at h)

pub shorter : (bs rest : List ℕ) (c : ℕ) → bs ≡ encode_utf8 c ++ rest → length rest < length bs
shorter bs rest c e = omega (arith, ap length e, length-append (encode_utf8 c) rest, length-encode c, len_utf8_bounds c)

pub text_over : (bs : List ℕ) (total : List (List ℕ)) (r : Reader) → length bs ≡ 0 → reads r (chars bs) ≡ total → cond r.begun ((string_bytes r.argument ++ backslashes r.backslashes) ∷ []) [] ≡ total
text_over [] total r n h = rw chars-nil at h
text_over (b ∷ bs) total r n h = absurd (omega arith)

pub nothing_left : (bs : List ℕ) → length bs ≡ 0 → msvc_arguments (chars bs) ≡ []
nothing_left [] n = rw (msvc_arguments-read, chars-nil) refl
nothing_left (b ∷ bs) n = absurd (omega arith)
