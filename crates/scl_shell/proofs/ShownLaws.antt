-- What is shown is visible, and is read back.
use Rattle.std.proofs.Common.{◌≡◌, ◌≢◌, ℕ, zero, suc, ◌+◌, ◌*◌, ◌/◌, ◌%◌, ◌<◌, ◌==◌, ◌||◌, ◌&&◌, Bool, true, false, not, cond, List, [], ◌∷◌, ◌++◌, length, get_or, refl, sym, ap, subst, ◌∙◌, arith, inl, inr, ◌⊎◌}
use Rattle.std.proofs.lemmas.List.{append-nil}
use Rattle.std.proofs.lemmas.List.Folds.{list_all-append}
use Rattle.std.proofs.lemmas.Grind.{flat_map-append}
use Rattle.std.proofs.lemmas.Bool.{eqb-true, cases_Bool}
use Rattle.std.proofs.lemmas.Str.{IsUtf8-append, IsUtf8-from_is_utf8, is_utf8-from_IsUtf8, IsUtf8-from_ascii, IsUtf8-nil, chars-append, chars-IsAscii, chars-encodes, chars-nil, encode_ascii, inside_one, encodes-chars, scalars-chars, utf8_lossy-IsUtf8}
use Rattle.std.specs.Prelude.{nat_lt, codes, take}
use Rattle.std.specs.Char.{encode_utf8}
use Rattle.std.specs.List.{list_all, flat_map}
use Rattle.std.specs.Str.{IsUtf8, is_utf8, IsAscii, chars, all_scalars, encode_utf8_all}
use Rattle.std.specs.Str.Lossy.{utf8_lossy}
use Rattle.scl_shell.specs.Laws.{ShownIsVisible, ShownWordsAreVisible, DollarQuotesAreReadBack}
use Rattle.scl_shell.specs.Quoted.{between, is_bare, in_quotes, in_single_quotes, quoted}
use Rattle.scl_shell.specs.Shown.{is_hidden, is_ignorable, is_visible, octal, escaped, shown, shown_briefly, in_dollar_quotes, dollar_quoted, shown_word, shown_next, shown_text}
use Rattle.scl_shell.specs.DollarQuotes.{InDollarQuotes}
use Rattle.scl_shell.specs.DollarQuotes.InDollarQuotes.{nothing, one, itself, octal as by_octal}

pub text-yes : (bs : List ℕ) → IsUtf8 bs → is_utf8 bs ≡ true
text-yes bs h = is_utf8-from_IsUtf8 bs h

pub text-no : (bs : List ℕ) → (IsUtf8 bs → ⊥) → is_utf8 bs ≡ false
text-no bs h = elim (is_utf8 bs) as (λ b. is_utf8 bs ≡ b → b ≡ false) [ true ↦ λ e. absurd (h (IsUtf8-from_is_utf8 bs e)) | false ↦ λ _. refl ] refl

pub ruleset text_rules = (text-yes, text-no)

and_left : (a b : Bool) → (a && b) ≡ true → a ≡ true
and_left true b h = refl
and_left false b h = h

and_right : (a b : Bool) → (a && b) ≡ true → b ≡ true
and_right true b h = h
and_right false b h = cc

both : (a b : Bool) → a ≡ true → b ≡ true → (a && b) ≡ true
both a b h k = rw (h, k) refl

abbrev is_seen : ℕ → Bool
is_seen c = not (is_hidden c)

visible_by : (bs cs : List ℕ) → IsUtf8 bs → chars bs ≡ cs → list_all is_seen cs ≡ true → is_visible bs ≡ true
visible_by bs cs u e h = both (is_utf8 bs) (list_all is_seen (chars bs)) (text-yes bs u) (rw e h)

visible_text : (bs : List ℕ) → is_visible bs ≡ true → IsUtf8 bs
visible_text bs h = IsUtf8-from_is_utf8 bs (and_left (is_utf8 bs) (list_all is_seen (chars bs)) h)

visible_seen : (bs : List ℕ) → is_visible bs ≡ true → list_all is_seen (chars bs) ≡ true
visible_seen bs h = and_right (is_utf8 bs) (list_all is_seen (chars bs)) h

visible_append : (a b : List ℕ) → is_visible a ≡ true → is_visible b ≡ true → is_visible (a ++ b) ≡ true
visible_append a b h k =
    visible_by (a ++ b) (chars a ++ chars b) (IsUtf8-append a b (visible_text a h) (visible_text b k)) (chars-append a b (visible_text a h))
    (list_all-append is_seen (chars a) (chars b) ∙ both (list_all is_seen (chars a)) (list_all is_seen (chars b)) (visible_seen a h) (visible_seen b k))

visible_nil : is_visible [] ≡ true
visible_nil = visible_by [] [] IsUtf8-nil chars-nil refl

neither : (a b : Bool) → a ≡ false → b ≡ false → (a || b) ≡ false
neither true b h k = h
neither false b h k = k

above : (low c high : ℕ) → c < 127 → nat_lt 126 low ≡ true → between low c high ≡ false
above low c high h k = grind arith

other : (n c : ℕ) → c < 127 → nat_lt 126 n ≡ true → (c == n) ≡ false
other n c h k = grind arith

not_ignorable : (c : ℕ) → c < 127 → is_ignorable c ≡ false
unfolding is_ignorable
not_ignorable c h =
    neither _ _ (neither _ _ (neither _ _ (neither _ _ (neither _ _ (neither _ _ (neither _ _ (neither _ _ (neither _ _ (neither _ _ (neither _ _ (neither _ _ (neither _ _ (neither _ _ (neither _ _ (neither _ _ (other 0xad c h refl) (other 0x34f c h refl)) (other 0x61c c h refl)) (above 0x115f c 0x1160 h refl)) (above 0x17b4 c 0x17b5 h refl)) (above 0x180b c 0x180f h refl)) (above 0x200b c 0x200f h refl)) (above 0x2028 c 0x202e h refl)) (above 0x2060 c 0x206f h refl)) (other 0x3164 c h refl)) (above 0xfe00 c 0xfe0f h refl)) (other 0xfeff c h refl)) (other 0xffa0 c h refl)) (above 0xfff0 c 0xfffb h refl)) (above 0x1bca0 c 0x1bca3 h refl)) (above 0x1d173 c 0x1d17a h refl)) (above 0xe0000 c 0xe0fff h refl)

no_control : (c : ℕ) → between 32 c 126 ≡ true → between 0 c 0x1f ≡ false
no_control c h = grind arith

below_delete : (c : ℕ) → between 32 c 126 ≡ true → c < 127
below_delete c h = grind arith

pub seen_ascii : (c : ℕ) → between 32 c 126 ≡ true → is_hidden c ≡ false
seen_ascii c h = neither _ _ (neither _ _ (no_control c h) (above 0x7f c 0x9f (below_delete c h) refl)) (not_ignorable c (below_delete c h))

one_ascii : (c : ℕ) → between 32 c 126 ≡ true → IsAscii (c ∷ [])
one_ascii c h zero = grind arith
one_ascii c h (suc i) = grind arith

visible_ascii : (c : ℕ) → between 32 c 126 ≡ true → is_visible (c ∷ []) ≡ true
visible_ascii c h = visible_by (c ∷ []) (c ∷ []) (IsUtf8-from_ascii (c ∷ []) (one_ascii c h)) (chars-IsAscii (c ∷ []) (one_ascii c h)) (rw (seen_ascii c h) refl)

visible_cons : (c : ℕ) (bs : List ℕ) → between 32 c 126 ≡ true → is_visible bs ≡ true → is_visible (c ∷ bs) ≡ true
visible_cons c bs h k = visible_append (c ∷ []) bs (visible_ascii c h) k

visible_flat_map : (f : ℕ → List ℕ) (bs : List ℕ) → ((c : ℕ) → is_visible (f c) ≡ true) → is_visible (flat_map f bs) ≡ true
visible_flat_map f [] h = visible_nil
visible_flat_map f (c ∷ bs) h = visible_append (f c) (flat_map f bs) (h c) (visible_flat_map f bs h)

digit : (n : ℕ) → between 32 (48 + n % 8) 126 ≡ true
digit n = grind arith

visible_octal : (c : ℕ) → is_visible (octal c) ≡ true
visible_octal c = visible_cons 92 _ refl (visible_cons _ _ (digit (c / 64)) (visible_cons _ _ (digit (c / 8)) (visible_ascii _ (digit c))))

visible_escaped_as : (c : ℕ) (b : Bool) → between 32 c 126 ≡ b → is_visible (cond b (c ∷ []) (octal c)) ≡ true
visible_escaped_as c true h = visible_ascii c h
visible_escaped_as c false h = visible_octal c

visible_escaped : (c : ℕ) → is_visible (escaped c) ≡ true
visible_escaped c = visible_escaped_as c (between 32 c 126) refl

visible_shown_as : (bs : List ℕ) (b : Bool) → is_visible bs ≡ b → is_visible (cond b bs (flat_map escaped bs)) ≡ true
visible_shown_as bs true h = h
visible_shown_as bs false h = visible_flat_map escaped bs visible_escaped

pub shown_is_visible : ShownIsVisible
shown_is_visible = λ bytes. visible_shown_as bytes (is_visible bytes) refl

-- what is shown is a text
pub shown_whole : (bytes : List ℕ) → utf8_lossy (shown bytes) ≡ shown bytes
shown_whole bytes = utf8_lossy-IsUtf8 (shown bytes) (visible_text (shown bytes) (shown_is_visible bytes))

visible_dots : is_visible (codes "..") ≡ true
visible_dots = visible_cons 46 _ refl (visible_ascii 46 refl)

visible_end : (b : Bool) → is_visible (cond b (codes "..") []) ≡ true
visible_end true = visible_dots
visible_end false = visible_nil

shown_briefly_is_visible : (bs : List ℕ) → is_visible (shown_briefly bs) ≡ true
shown_briefly_is_visible bs = visible_append (shown (take 200 bs)) _ (shown_is_visible (take 200 bs)) (visible_end (nat_lt 200 (length bs)))

pub shown_briefly_whole : (bytes : List ℕ) → utf8_lossy (shown_briefly bytes) ≡ shown_briefly bytes
shown_briefly_whole bytes = utf8_lossy-IsUtf8 (shown_briefly bytes) (visible_text (shown_briefly bytes) (shown_briefly_is_visible bytes))

-- ---- quoted words

-- a text of characters other than the single quote has no byte of one
no_quote_inside : (c : ℕ) → c ≢ 39 → (k : ℕ) → k < length (encode_utf8 c) → get_or (encode_utf8 c) k 0 ≢ 39
no_quote_inside c ne k l e = ne (inside_one c [] (encode_utf8 c) k (sym (append-nil (encode_utf8 c))) l (omega (arith, e)) ∙ e)

unquoted : (bs : List ℕ) → ((k : ℕ) → k < length bs → get_or bs k 0 ≢ 39) → flat_map in_quotes bs ≡ bs
unquoted [] h = refl
unquoted (b ∷ bs) h = rw (is_other b (h zero (omega arith))) (ap (λ l. b ∷ l) (unquoted bs (λ k l. h (suc k) (omega arith))))
  where
    is_other : (d : ℕ) → d ≢ 39 → (d == 39) ≡ false
    is_other d ne = grind arith

one_char : (c : ℕ) → all_scalars (c ∷ []) ≡ true → chars (encode_utf8 c) ≡ c ∷ []
one_char c s = ap chars (sym (append-nil (encode_utf8 c))) ∙ chars-encodes (c ∷ []) s

visible_char : (c : ℕ) → all_scalars (c ∷ []) ≡ true → is_hidden c ≡ false → is_visible (encode_utf8 c) ≡ true
visible_char c s h = visible_by (encode_utf8 c) (c ∷ []) (c ∷ [], (s, append-nil (encode_utf8 c))) (one_char c s) (rw h refl)

quoted_quote : is_visible (flat_map in_quotes (encode_utf8 39)) ≡ true
quoted_quote = rw (encode_ascii 39 (omega arith)) (visible_cons 39 _ refl (visible_cons 92 _ refl (visible_cons 39 _ refl (visible_ascii 39 refl))))

visible_quoted_char : (c : ℕ) → all_scalars (c ∷ []) ≡ true → is_hidden c ≡ false → (c == 39 ≡ true) ⊎ (c == 39 ≡ false) → is_visible (flat_map in_quotes (encode_utf8 c)) ≡ true
visible_quoted_char c s h (inl q) = let P : ℕ → Type 0 = λ x. is_visible (flat_map in_quotes (encode_utf8 x)) ≡ true in subst P (sym (eqb-true c 39 q)) quoted_quote
visible_quoted_char c s h (inr q) = rw (unquoted (encode_utf8 c) (no_quote_inside c (λ e. cc))) (visible_char c s h)

not_true : (b : Bool) → not b ≡ true → b ≡ false
not_true true h = sym h
not_true false h = refl

visible_in_quotes : (cs : List ℕ) → all_scalars cs ≡ true → list_all is_seen cs ≡ true → is_visible (flat_map in_quotes (encode_utf8_all cs)) ≡ true
visible_in_quotes [] s h = visible_nil
visible_in_quotes (c ∷ cs) s h =
    rw (flat_map-append in_quotes (encode_utf8 c) (encode_utf8_all cs))
    (visible_append (flat_map in_quotes (encode_utf8 c)) (flat_map in_quotes (encode_utf8_all cs))
    (visible_quoted_char c (both _ true (and_left _ (all_scalars cs) s) refl) (not_true (is_hidden c) (and_left (is_seen c) (list_all is_seen cs) h)) (cases_Bool (c == 39)))
    (visible_in_quotes cs (and_right _ (all_scalars cs) s) (and_right (is_seen c) (list_all is_seen cs) h)))

visible_quoted_inside : (word : List ℕ) → is_visible word ≡ true → is_visible (flat_map in_quotes word) ≡ true
visible_quoted_inside word h =
    let u = visible_text word h in
    let P : List ℕ → Type 0 = λ bs. is_visible (flat_map in_quotes bs) ≡ true in
    subst P (encodes-chars word u) (visible_in_quotes (chars word) (scalars-chars word u) (visible_seen word h))

visible_single_quoted : (word : List ℕ) → is_visible word ≡ true → is_visible (in_single_quotes word) ≡ true
visible_single_quoted word h = visible_cons 39 _ refl (visible_append (flat_map in_quotes word) (39 ∷ []) (visible_quoted_inside word h) (visible_ascii 39 refl))

visible_quoted_as : (word : List ℕ) (bare : Bool) → is_visible word ≡ true → is_visible (cond bare word (in_single_quotes word)) ≡ true
visible_quoted_as word true h = h
visible_quoted_as word false h = visible_single_quoted word h

visible_dollar_as : (c : ℕ) (b : Bool) → (c == 39 || c == 92) ≡ b → is_visible (cond b (92 ∷ c ∷ []) (escaped c)) ≡ true
visible_dollar_as c true h = visible_cons 92 _ refl (visible_ascii c (grind arith))
visible_dollar_as c false h = visible_escaped c

visible_dollar : (word : List ℕ) → is_visible (dollar_quoted word) ≡ true
visible_dollar word =
    visible_cons 36 _ refl (visible_cons 39 _ refl (visible_append (flat_map in_dollar_quotes word) (39 ∷ [])
    (visible_flat_map in_dollar_quotes word (λ c. visible_dollar_as c (c == 39 || c == 92) refl)) (visible_ascii 39 refl)))

visible_word_as : (word : List ℕ) (b : Bool) → is_visible word ≡ b → is_visible (cond b (quoted word) (dollar_quoted word)) ≡ true
visible_word_as word true h = visible_quoted_as word (is_bare word) h
visible_word_as word false h = visible_dollar word

visible_word : (word : List ℕ) → is_visible (shown_word word) ≡ true
visible_word word = visible_word_as word (is_visible word) refl

visible_others : (words : List (List ℕ)) → is_visible (flat_map shown_next words) ≡ true
visible_others [] = visible_nil
visible_others (word ∷ words) = visible_append (shown_next word) (flat_map shown_next words) (visible_cons 32 _ refl (visible_word word)) (visible_others words)

visible_words : (words : List (List ℕ)) → is_visible (shown_text words) ≡ true
visible_words [] = visible_nil
visible_words (word ∷ words) = visible_append (shown_word word) (flat_map shown_next words) (visible_word word) (visible_others words)

pub shown_words_are_visible : ShownWordsAreVisible
shown_words_are_visible = visible_words

pub shown_command_whole : (program : List ℕ) (words : List (List ℕ)) → utf8_lossy (shown_text (program ∷ words)) ≡ shown_text (program ∷ words)
shown_command_whole program words = utf8_lossy-IsUtf8 (shown_text (program ∷ words)) (visible_text (shown_text (program ∷ words)) (visible_words (program ∷ words)))

-- ---- `$'..'`

stands_itself : (c : ℕ) → (c == 39 || c == 92) ≡ false → (c ≢ 39) × (c ≢ 92)
stands_itself c h = (λ e. cc, λ e. cc)

below : (c : ℕ) → nat_lt c 256 ≡ true → c < 256
below c h = grind arith

digits_of : (c : ℕ) → nat_lt c 256 ≡ true → (c / 64 % 8) * 64 + (c / 8 % 8) * 8 + c % 8 ≡ c
digits_of c h = let l = below c h in omega (arith, l)

high_digit : (c : ℕ) → nat_lt c 256 ≡ true → c / 64 % 8 < 4
high_digit c h = let l = below c h in omega (arith, l)

read_octal : (c : ℕ) (s m : List ℕ) → nat_lt c 256 ≡ true → InDollarQuotes s m → InDollarQuotes (octal c ++ s) (c ∷ m)
read_octal c s m h r =
    let P : ℕ → Type 0 = λ x. InDollarQuotes (octal c ++ s) (x ∷ m) in
    subst P (digits_of c h) (by_octal (c / 64 % 8) (c / 8 % 8) (c % 8) s m (high_digit c h) (omega arith) (omega arith) r)

read_escaped_as : (c : ℕ) (s m : List ℕ) (b : Bool) → (c == 39 || c == 92) ≡ false → nat_lt c 256 ≡ true → InDollarQuotes s m → InDollarQuotes (cond b (c ∷ []) (octal c) ++ s) (c ∷ m)
read_escaped_as c s m true q h r = one c s m (stands_itself c q).0 (stands_itself c q).1 r
read_escaped_as c s m false q h r = read_octal c s m h r

read_dollar_as : (c : ℕ) (s m : List ℕ) (b : Bool) → (c == 39 || c == 92) ≡ b → nat_lt c 256 ≡ true → InDollarQuotes s m → InDollarQuotes (cond b (92 ∷ c ∷ []) (escaped c) ++ s) (c ∷ m)
read_dollar_as c s m true q h r = itself c s m q r
read_dollar_as c s m false q h r = read_escaped_as c s m (between 32 c 126) q h r

read_dollar : (word : List ℕ) → list_all (λ byte. nat_lt byte 256) word ≡ true → InDollarQuotes (flat_map in_dollar_quotes word) word
read_dollar [] h = nothing
read_dollar (c ∷ word) h =
    read_dollar_as c (flat_map in_dollar_quotes word) word (c == 39 || c == 92) refl (and_left (nat_lt c 256) (list_all (λ byte. nat_lt byte 256) word) h)
    (read_dollar word (and_right (nat_lt c 256) (list_all (λ byte. nat_lt byte 256) word) h))

pub dollar_quotes_are_read_back : DollarQuotesAreReadBack
dollar_quotes_are_read_back = read_dollar

pub ruleset shown_laws = (shown_is_visible, shown_words_are_visible, dollar_quotes_are_read_back)
