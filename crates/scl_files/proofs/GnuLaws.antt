-- The laws of GNU texts.
use Rattle.std.proofs.Common.{◌≡◌, ℕ, ◌<◌, ◌==◌, ◌||◌, Bool, true, false, List, [], ◌∷◌, ◌++◌, map, length, encode_utf8, encode_utf8_all, refl, sym, ap, subst, ◌∙◌, append_assoc, arith, inl, inr, length-append}
use Rattle.std.proofs.lemmas.List.{append-nil}
use Rattle.std.proofs.lemmas.Bool.{eqb-true, false≢true, cases_Bool}
use Rattle.std.proofs.lemmas.Str.{length-encode, len_utf8_bounds}
use Rattle.std.specs.List.{list_all, join_with_byte}
use Rattle.scl_files.specs.GnuText.{is_gnu_separator, Piece, gap, stands, Inside, nothing, one, pair, HasNone, more, ArePieces, end, separator, plain, escaped, lone, single, open_single, double, open_double, lone_inside, outside, in_single, in_double, pieces_from, pieces, keep, joined, gnu_arguments, is_not_empty, in_single_quotes, gnu_quoted, gnu_escaped, TextsHavePieces, TextsHaveNoOtherPieces, GivesNoEmptyArgument, IsReadBack}
use Rattle.scl_files.specs.GnuReader.{mark_of, mode_after}
use Rattle.scl_files.specs.declared.gnu_text.Mode.TheVariants as mode
use Rattle.scl_files.specs.declared.gnu_text.Mark.TheVariants as mark
use Rattle.scl_files.proofs.GnuLemmas.{read_from, differs, Test, are_pieces, gnu_arguments-read}

-- ---- no other pieces

run_single : (s t m : List ℕ) → HasNone 39 s → pieces_from (in_single m) (s ++ 39 ∷ t) ≡ stands (m ++ s) ∷ pieces_from outside t
run_single [] t m h = rw append-nil refl
run_single (c ∷ s) t m (more _ _ ne h) = rw (differs c 39 ne) (run_single s t (m ++ c ∷ []) h ∙ rw append_assoc refl)

run_open_single : (s m : List ℕ) → HasNone 39 s → pieces_from (in_single m) s ≡ stands (m ++ s) ∷ []
run_open_single [] m h = rw append-nil refl
run_open_single (c ∷ s) m (more _ _ ne h) = rw (differs c 39 ne) (run_open_single s (m ++ c ∷ []) h ∙ rw append_assoc refl)

run_inside : (s i t m : List ℕ) → Inside s i → pieces_from (in_double m) (s ++ t) ≡ pieces_from (in_double (m ++ i)) t
run_inside _ _ t m nothing = rw append-nil refl
run_inside _ _ t m (one c s i a b h) = rw (differs c 34 a, differs c 92 b) (run_inside s i t (m ++ c ∷ []) h ∙ rw append_assoc refl)
run_inside _ _ t m (pair c s i h) = run_inside s i t (m ++ c ∷ []) h ∙ rw append_assoc refl

no_others : (text : List ℕ) (ps : List Piece) → ArePieces text ps → ps ≡ pieces text
no_others _ _ end = refl
no_others _ _ (separator c t ps h p) = rw h (ap (λ (qs : List Piece). gap ∷ qs) (no_others t ps p))
no_others _ _ (plain c t ps h a b d p) = rw (h, differs c 92 a, differs c 39 b, differs c 34 d) (ap (λ (qs : List Piece). stands (c ∷ []) ∷ qs) (no_others t ps p))
no_others _ _ (escaped c t ps p) = ap (λ (qs : List Piece). stands (c ∷ []) ∷ qs) (no_others t ps p)
no_others _ _ lone = refl
no_others _ _ (single s t ps h p) = ap (λ (qs : List Piece). stands s ∷ qs) (no_others t ps p) ∙ sym (run_single s t [] h)
no_others _ _ (open_single s h) = sym (run_open_single s [] h)
no_others _ _ (double s m t ps h p) = ap (λ (qs : List Piece). stands m ∷ qs) (no_others t ps p) ∙ sym (run_inside s m (34 ∷ t) [] h)
no_others _ _ (open_double s m h) = sym (ap (pieces_from (in_double [])) (sym (append-nil s)) ∙ run_inside s m [] [] h)
no_others _ _ (lone_inside s m h) = sym (run_inside s m (92 ∷ []) [] h)

pub texts_have_pieces : TextsHavePieces
texts_have_pieces = are_pieces

pub texts_have_no_other_pieces : TextsHaveNoOtherPieces
texts_have_no_other_pieces = no_others

-- ---- no empty argument

keep-all : (b : List ℕ) (arguments : List (List ℕ)) → list_all is_not_empty arguments ≡ true → list_all is_not_empty (keep b arguments) ≡ true
keep-all [] arguments h = h
keep-all (x ∷ b) arguments h = h

joined-all : (ps : List Piece) (begun : List ℕ) → list_all is_not_empty (joined begun ps) ≡ true
joined-all [] begun = keep-all begun [] refl
joined-all (gap ∷ ps) begun = keep-all begun (joined [] ps) (joined-all ps [])
joined-all (stands m ∷ ps) begun = joined-all ps (begun ++ encode_utf8_all m)

pub gives_no_empty_argument : GivesNoEmptyArgument
unfolding gnu_arguments
gives_no_empty_argument = λ text. joined-all (pieces text) []

-- ---- quoted words

keep-cons : (b : List ℕ) (arguments : List (List ℕ)) → 0 < length b → keep b arguments ≡ b ∷ arguments
keep-cons [] arguments h = absurd (omega arith)
keep-cons (x ∷ b) arguments h = refl

keep-word : (c : ℕ) (cs : List ℕ) (arguments : List (List ℕ)) → keep (encode_utf8_all (c ∷ cs)) arguments ≡ encode_utf8_all (c ∷ cs) ∷ arguments
keep-word c cs arguments = keep-cons (encode_utf8_all (c ∷ cs)) arguments (omega (arith, length-append (encode_utf8 c) (encode_utf8_all cs), length-encode c, len_utf8_bounds c))

-- a quoted word is read as the word, whatever follows
record IsQuoting (quoted : List ℕ → List ℕ) : Type 0 where
  reads : (word begun rest : List ℕ) → read_from mode.Plain begun (quoted word ++ rest) ≡ read_from mode.Plain (begun ++ encode_utf8_all word) rest

words_read : (quoted : List ℕ → List ℕ) → IsQuoting quoted → (words : List (List ℕ)) → list_all is_not_empty words ≡ true
    → read_from mode.Plain [] (join_with_byte 32 (map quoted words)) ≡ map encode_utf8_all words
words_read quoted q [] h = refl
words_read quoted q ([] ∷ words) h = cc
words_read quoted q ((c ∷ cs) ∷ []) h =
    ap (read_from mode.Plain []) (sym (append-nil (quoted (c ∷ cs)))) ∙ q.reads (c ∷ cs) [] [] ∙ keep-word c cs []
words_read quoted q ((c ∷ cs) ∷ (v ∷ words)) h =
    q.reads (c ∷ cs) [] (32 ∷ join_with_byte 32 (map quoted (v ∷ words)))
    ∙ keep-word c cs (read_from mode.Plain [] (join_with_byte 32 (map quoted (v ∷ words))))
    ∙ ap (λ (ws : List (List ℕ)). encode_utf8_all (c ∷ cs) ∷ ws) (words_read quoted q (v ∷ words) h)

abbrev ReadsQuoted : List ℕ → Type 0
ReadsQuoted word = (begun rest : List ℕ) → read_from mode.Single begun (in_single_quotes word ++ rest) ≡ read_from mode.Plain (begun ++ encode_utf8_all word) rest

quoted_char : (c : ℕ) (word : List ℕ) → ReadsQuoted word → Test (c == 39) → ReadsQuoted (c ∷ word)
quoted_char c word ih (inl h) = let P : ℕ → Type 0 = λ x. ReadsQuoted (x ∷ word) in subst P (sym (eqb-true c 39 h)) (λ begun rest. ih (begun ++ encode_utf8 39) rest ∙ rw append_assoc refl)
quoted_char c word ih (inr h) = λ begun rest. rw (h, h) (ih (begun ++ encode_utf8 c) rest ∙ rw append_assoc refl)

read_in_quotes : (word : List ℕ) → ReadsQuoted word
read_in_quotes [] = λ begun rest. rw append-nil refl
read_in_quotes (c ∷ word) = quoted_char c word (read_in_quotes word) (cases_Bool (c == 39))

pub quoted_words_are_read_back : IsReadBack gnu_quoted
quoted_words_are_read_back = λ words h. sym (gnu_arguments-read _) ∙ words_read gnu_quoted (record { reads = λ word begun rest. read_in_quotes word begun rest }) words h

-- ---- words with backslashes

abbrev means_more : ℕ → Bool
means_more c = is_gnu_separator c || c == 92 || c == 39 || c == 34

abbrev ReadsEscaped : List ℕ → Type 0
ReadsEscaped word = (begun rest : List ℕ) → read_from mode.Plain begun (gnu_escaped word ++ rest) ≡ read_from mode.Plain (begun ++ encode_utf8_all word) rest

or-false_left : (a b : Bool) → (a || b) ≡ false → a ≡ false
or-false_left true b h = h
or-false_left false b h = refl

or-false_right : (a b : Bool) → (a || b) ≡ false → b ≡ false
or-false_right true b h = absurd (false≢true (sym h))
or-false_right false b h = h

stands_plain : (c : ℕ) → means_more c ≡ false → (mark_of mode.Plain c ≡ mark.Stands) × (mode_after mode.Plain c ≡ mode.Plain)
stands_plain c h =
    let first_three = or-false_left (is_gnu_separator c || c == 92 || c == 39) (c == 34) h in
    let first_two = or-false_left (is_gnu_separator c || c == 92) (c == 39) first_three in
    let no_separator = or-false_left (is_gnu_separator c) (c == 92) first_two in
    let no_backslash = or-false_right (is_gnu_separator c) (c == 92) first_two in
    let no_single = or-false_right (is_gnu_separator c || c == 92) (c == 39) first_three in
    let no_double = or-false_right (is_gnu_separator c || c == 92 || c == 39) (c == 34) h in
    (rw (no_separator, no_backslash, no_single, no_double) refl, rw (no_backslash, no_single, no_double) refl)

escaped_char : (c : ℕ) (word : List ℕ) → ReadsEscaped word → Test (means_more c) → ReadsEscaped (c ∷ word)
escaped_char c word ih (inl h) = λ begun rest. rw h (ih (begun ++ encode_utf8 c) rest ∙ rw append_assoc refl)
escaped_char c word ih (inr h) = λ begun rest. rw (h, (stands_plain c h).0, (stands_plain c h).1) (ih (begun ++ encode_utf8 c) rest ∙ rw append_assoc refl)

read_escaped : (word : List ℕ) → ReadsEscaped word
read_escaped [] = λ begun rest. rw append-nil refl
read_escaped (c ∷ word) = escaped_char c word (read_escaped word) (cases_Bool (means_more c))

pub escaped_words_are_read_back : IsReadBack gnu_escaped
escaped_words_are_read_back = λ words h. sym (gnu_arguments-read _) ∙ words_read gnu_escaped (record { reads = λ word begun rest. read_escaped word begun rest }) words h

pub ruleset gnu_laws = (texts_have_pieces, texts_have_no_other_pieces, gives_no_empty_argument, quoted_words_are_read_back, escaped_words_are_read_back)
