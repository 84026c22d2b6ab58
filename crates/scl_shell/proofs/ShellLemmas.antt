-- Reading a text byte by byte gives the words of its pieces.
use Rattle.std.proofs.Common.{◌≡◌, ◌≢◌, ℕ, ◌==◌, Bool, true, false, List, [], ◌∷◌, ◌++◌, Option, None, Some, Result, Ok, Err, refl, sym, ap, subst, ◌∙◌, ◌≤◌, length, drop, append_assoc, arith, ◌⊎◌, inl, inr}
use Rattle.std.proofs.lemmas.List.{append-nil, drop_all}
use Rattle.std.proofs.lemmas.Bool.{eqb-true, cases_Bool}
use Rattle.scl_shell.specs.ShellText.{is_blank, is_special, HasNone, none, more, Inside, nothing, one, special, line_end, other, Piece, gap, stands, ArePieces, end, blank, plain, escaped, continued, single, double, with, kept, joined, AreWords, IsBroken, last_backslash, open_single, open_double, open_escape}
use Rattle.scl_shell.specs.ShellReader.{mark_of, mode_after, closed, begun_after}
use Rattle.scl_shell.specs.declared.split.ShellError.{ShellError}
use Rattle.scl_shell.specs.declared.split.ShellError.TheVariants as errors
use Rattle.scl_shell.specs.declared.split.Mode.{Mode}
use Rattle.scl_shell.specs.declared.split.Mode.TheVariants as mode

abbrev pub Said : Type 0
Said = Result (List (List ℕ)) ShellError

-- words before those of the rest
abbrev pub before : List (List ℕ) → Said → Said
before ws (Ok vs) = Ok (ws ++ vs)
before ws (Err e) = Err e

-- the result at the end of a text
abbrev pub ended : Mode → Option (List ℕ) → Said
ended mode.Plain begun = Ok (kept begun)
ended mode.Escaped begun = Err errors.LastBackslash
ended mode.Single begun = Err errors.OpenQuote
ended mode.Double begun = Err errors.OpenQuote
ended mode.DoubleEscaped begun = Err errors.OpenQuote

-- the result of reading bytes one by one; a word may have begun with these
abbrev pub read_from : Mode → Option (List ℕ) → List ℕ → Said
read_from m begun [] = ended m begun
read_from m begun (c ∷ cs) = before (closed (mark_of m c) begun) (read_from (mode_after m c) (begun_after (mark_of m c) c begun) cs)

pub before-nil : (s : Said) → before [] s ≡ s
before-nil (Ok vs) = refl
before-nil (Err e) = refl

pub with-with : (b : Option (List ℕ)) (m n : List ℕ) → with (with b m) n ≡ with b (m ++ n)
with-with None m n = refl
with-with (Some w) m n = rw append_assoc refl

pub differs : (a b : ℕ) → a ≢ b → (a == b) ≡ false
differs a b h = grind arith

pub apart : (a b : ℕ) → (a == b) ≡ false → a ≢ b
apart a b h = grind arith

-- ---- how complete pieces are read, whatever follows

read_single : (s t : List ℕ) (begun : Option (List ℕ)) (m : List ℕ) → HasNone 39 s → read_from mode.Single (with begun m) (s ++ 39 ∷ t) ≡ read_from mode.Plain (with begun (m ++ s)) t
read_single [] t begun m h = rw append-nil (before-nil _)
read_single (c ∷ s) t begun m (more _ _ ne h) = rw (differs c 39 ne) (before-nil _ ∙ rw with-with (read_single s t begun (m ++ c ∷ []) h ∙ rw append_assoc refl))

read_inside : (s i t : List ℕ) (begun : Option (List ℕ)) (m : List ℕ) → Inside s i → read_from mode.Double (with begun m) (s ++ t) ≡ read_from mode.Double (with begun (m ++ i)) t
read_inside _ _ t begun m nothing = rw append-nil refl
read_inside _ _ t begun m (one c s i a b h) = rw (differs c 34 a, differs c 92 b) (before-nil _ ∙ rw with-with (read_inside s i t begun (m ++ c ∷ []) h ∙ rw append_assoc refl))
read_inside _ _ t begun m (special c s i sp h) = rw (not_line_feed c sp, sp) (before-nil _ ∙ before-nil _ ∙ rw with-with (read_inside s i t begun (m ++ c ∷ []) h ∙ rw append_assoc refl))
  where
    not_line_feed : (d : ℕ) → is_special d ≡ true → (d == 10) ≡ false
    not_line_feed d h = grind arith
read_inside _ _ t begun m (line_end s i h) = before-nil _ ∙ before-nil _ ∙ read_inside s i t begun m h
read_inside _ _ t begun m (other c s i sp ne h) = rw (differs c 10 ne, sp) (before-nil _ ∙ before-nil _ ∙ rw (with-with (with begun m) (92 ∷ []) (c ∷ []), with-with begun m (92 ∷ c ∷ [])) (read_inside s i t begun (m ++ 92 ∷ c ∷ []) h ∙ rw append_assoc refl))

-- how pieces are read, if this is the result of what follows
abbrev pub joined_to : Option (List ℕ) → List Piece → (Option (List ℕ) → Said) → Said
joined_to begun [] said = said begun
joined_to begun (gap ∷ ps) said = before (kept begun) (joined_to None ps said)
joined_to begun (stands m ∷ ps) said = joined_to (with begun m) ps said

pub joined_to-end : (begun : Option (List ℕ)) (ps : List Piece) → joined_to begun ps (λ b. Ok (kept b)) ≡ Ok (joined begun ps)
joined_to-end begun [] = refl
joined_to-end begun (gap ∷ ps) = rw (joined_to-end None ps) refl
joined_to-end begun (stands m ∷ ps) = joined_to-end (with begun m) ps

pub joined_to-error : (begun : Option (List ℕ)) (ps : List Piece) (said : Option (List ℕ) → Said) (e : ShellError) → ((b : Option (List ℕ)) → said b ≡ Err e) → joined_to begun ps said ≡ Err e
joined_to-error begun [] said e h = h begun
joined_to-error begun (gap ∷ ps) said e h = rw (joined_to-error None ps said e h) refl
joined_to-error begun (stands m ∷ ps) said e h = joined_to-error (with begun m) ps said e h

-- a blank is no backslash and no quote
blank_marks : (c : ℕ) → is_blank c ≡ true → ((c == 92) ≡ false) × ((c == 39) ≡ false) × ((c == 34) ≡ false)
blank_marks c h = (grind arith, grind arith, grind arith)

pub by_pieces : (t : List ℕ) (ps : List Piece) (begun : Option (List ℕ)) (rest : List ℕ) → ArePieces t ps
    → read_from mode.Plain begun (t ++ rest) ≡ joined_to begun ps (λ b. read_from mode.Plain b rest)
by_pieces _ _ begun rest end = refl
by_pieces _ _ begun rest (blank c t ps h p) =
    let marks = blank_marks c h in
    rw (marks.0, marks.1, marks.2, h) (ap (before (kept begun)) (by_pieces t ps None rest p))
by_pieces _ _ begun rest (plain c t ps h a b d p) = rw (differs c 92 a, differs c 39 b, differs c 34 d, h) (before-nil _ ∙ by_pieces t ps (with begun (c ∷ [])) rest p)
by_pieces _ _ begun rest (escaped c t ps ne p) = rw (differs c 10 ne) (before-nil _ ∙ before-nil _ ∙ by_pieces t ps (with begun (c ∷ [])) rest p)
by_pieces _ _ begun rest (continued t ps p) = before-nil _ ∙ before-nil _ ∙ by_pieces t ps begun rest p
by_pieces _ _ begun rest (single s t ps h p) =
    before-nil _ ∙ rw (append_assoc s (39 ∷ t) rest) (read_single s (t ++ rest) begun [] h ∙ by_pieces t ps (with begun s) rest p)
by_pieces _ _ begun rest (double s m t ps h p) =
    before-nil _ ∙ rw (append_assoc s (34 ∷ t) rest) (read_inside s m (34 ∷ (t ++ rest)) begun [] h ∙ before-nil _ ∙ by_pieces t ps (with begun m) rest p)

pub words_read : (text : List ℕ) (words : List (List ℕ)) → AreWords text words → read_from mode.Plain None text ≡ Ok words
words_read text words (ps, p, e) =
    ap (read_from mode.Plain None) (sym (append-nil text)) ∙ by_pieces text ps None [] p ∙ joined_to-end None ps ∙ ap (λ (ws : List (List ℕ)). let said : Said = Ok ws in said) (sym e)

-- ---- how broken texts are read

read_open_single : (s : List ℕ) (begun : Option (List ℕ)) → HasNone 39 s → read_from mode.Single begun s ≡ Err errors.OpenQuote
read_open_single [] begun h = refl
read_open_single (c ∷ s) begun (more _ _ ne h) = rw (differs c 39 ne) (before-nil _ ∙ read_open_single s (with begun (c ∷ [])) h)

read_open_double : (s m : List ℕ) (begun : Option (List ℕ)) → Inside s m → read_from mode.Double (with begun []) s ≡ Err errors.OpenQuote
read_open_double s m begun h = ap (read_from mode.Double (with begun [])) (sym (append-nil s)) ∙ read_inside s m [] begun [] h

pub broken_read : (text : List ℕ) (error : ShellError) → IsBroken text error → read_from mode.Plain None text ≡ Err error
broken_read _ _ (last_backslash t ps p) = by_pieces t ps None (92 ∷ []) p ∙ joined_to-error None ps _ errors.LastBackslash (λ b. refl)
broken_read _ _ (open_single t s ps p h) = by_pieces t ps None (39 ∷ s) p ∙ joined_to-error None ps _ errors.OpenQuote (λ b. before-nil _ ∙ read_open_single s (with b []) h)
broken_read _ _ (open_double t s m ps p h) = by_pieces t ps None (34 ∷ s) p ∙ joined_to-error None ps _ errors.OpenQuote (λ b. before-nil _ ∙ read_open_double s m b h)
broken_read _ _ (open_escape t s m ps p h) =
    by_pieces t ps None (34 ∷ (s ++ 92 ∷ [])) p ∙ joined_to-error None ps _ errors.OpenQuote (λ b. before-nil _ ∙ read_inside s m (92 ∷ []) b [] h)

-- ---- every text has words or is broken

-- bytes that are complete pieces before any others
abbrev IsFront : List ℕ → Type 0
IsFront p = (t : List ℕ) (ps : List Piece) → ArePieces t ps → (qs : List Piece) × ArePieces (p ++ t) qs

abbrev Told : List ℕ → Type 0
Told t = ((ps : List Piece) × ArePieces t ps) ⊎ ((e : ShellError) × IsBroken t e)

broken_behind : (p t : List ℕ) (e : ShellError) → IsFront p → IsBroken t e → IsBroken (p ++ t) e
broken_behind p _ _ front (last_backslash t ps h) = rw (← append_assoc p t (92 ∷ [])) (last_backslash (p ++ t) (front t ps h).0 (front t ps h).1)
broken_behind p _ _ front (open_single t s ps h n) = rw (← append_assoc p t (39 ∷ s)) (open_single (p ++ t) s (front t ps h).0 (front t ps h).1 n)
broken_behind p _ _ front (open_double t s m ps h n) = rw (← append_assoc p t (34 ∷ s)) (open_double (p ++ t) s m (front t ps h).0 (front t ps h).1 n)
broken_behind p _ _ front (open_escape t s m ps h n) = rw (← append_assoc p t (34 ∷ (s ++ 92 ∷ []))) (open_escape (p ++ t) s m (front t ps h).0 (front t ps h).1 n)

told_behind : (p t : List ℕ) → IsFront p → Told t → Told (p ++ t)
told_behind p t front (inl (ps, h)) = inl (front t ps h)
told_behind p t front (inr (e, h)) = inr (e, broken_behind p t e front h)

-- the context of the next byte of a text, with the bytes before it in that context
data At : Type 0 where
  outside : At
  behind_backslash : At
  in_single : List ℕ → At
  in_double : List ℕ → List ℕ → At
  in_double_behind_backslash : List ℕ → List ℕ → At

abbrev ToldAt : At → List ℕ → Type 0
ToldAt outside t = Told t
ToldAt behind_backslash t = Told (92 ∷ t)
ToldAt (in_single s) t = HasNone 39 s → Told (39 ∷ (s ++ t))
ToldAt (in_double s m) t = Inside s m → Told (34 ∷ (s ++ t))
ToldAt (in_double_behind_backslash s m) t = Inside s m → Told (34 ∷ (s ++ 92 ∷ t))

abbrev Test : Bool → Type 0
Test b = (b ≡ true) ⊎ (b ≡ false)

HasNone-push : (m : List ℕ) (c : ℕ) → c ≢ 39 → HasNone 39 m → HasNone 39 (m ++ c ∷ [])
HasNone-push _ c ne none = more c [] ne none
HasNone-push _ c ne (more d s d_is_other h) = more d (s ++ c ∷ []) d_is_other (HasNone-push s c ne h)

-- an inside with more of it after
Inside-append : (s m u v : List ℕ) → Inside s m → Inside u v → Inside (s ++ u) (m ++ v)
Inside-append _ _ u v nothing k = k
Inside-append _ _ u v (one c s m a b h) k = one c (s ++ u) (m ++ v) a b (Inside-append s m u v h k)
Inside-append _ _ u v (special c s m sp h) k = special c (s ++ u) (m ++ v) sp (Inside-append s m u v h k)
Inside-append _ _ u v (line_end s m h) k = line_end (s ++ u) (m ++ v) (Inside-append s m u v h k)
Inside-append _ _ u v (other c s m sp ne h) k = other c (s ++ u) (m ++ v) sp ne (Inside-append s m u v h k)

front_single : (s : List ℕ) → HasNone 39 s → IsFront (39 ∷ (s ++ 39 ∷ []))
front_single s h = λ t ps p. (stands s ∷ ps, rw (append_assoc s (39 ∷ []) t) (single s t ps h p))

front_double : (s m : List ℕ) → Inside s m → IsFront (34 ∷ (s ++ 34 ∷ []))
front_double s m h = λ t ps p. (stands m ∷ ps, rw (append_assoc s (34 ∷ []) t) (double s m t ps h p))

told_outside : (c : ℕ) (t : List ℕ) → ((a : At) → ToldAt a t) → Test (is_blank c) → Test (c == 92) → Test (c == 39) → Test (c == 34) → Told (c ∷ t)
told_outside c t ih (inl s) _ _ _ = told_behind (c ∷ []) t (λ u ps p. (gap ∷ ps, blank c u ps s p)) (ih outside)
told_outside c t ih (inr s) (inl b) _ _ = let P : ℕ → Type 0 = λ x. Told (x ∷ t) in subst P (sym (eqb-true c 92 b)) (ih behind_backslash)
told_outside c t ih (inr s) (inr b) (inl q) _ = let P : ℕ → Type 0 = λ x. Told (x ∷ t) in subst P (sym (eqb-true c 39 q)) (ih (in_single []) none)
told_outside c t ih (inr s) (inr b) (inr q) (inl d) = let P : ℕ → Type 0 = λ x. Told (x ∷ t) in subst P (sym (eqb-true c 34 d)) (ih (in_double [] []) nothing)
told_outside c t ih (inr s) (inr b) (inr q) (inr d) =
    told_behind (c ∷ []) t (λ u ps p. (stands (c ∷ []) ∷ ps, plain c u ps s (apart c 92 b) (apart c 39 q) (apart c 34 d) p)) (ih outside)

told_escaped : (c : ℕ) (t : List ℕ) → Told t → Test (c == 10) → Told (92 ∷ c ∷ t)
told_escaped c t ih (inl l) =
    let P : ℕ → Type 0 = λ x. Told (92 ∷ x ∷ t) in subst P (sym (eqb-true c 10 l)) (told_behind (92 ∷ 10 ∷ []) t (λ u ps p. (ps, continued u ps p)) ih)
told_escaped c t ih (inr l) = told_behind (92 ∷ c ∷ []) t (λ u ps p. (stands (c ∷ []) ∷ ps, escaped c u ps (apart c 10 l) p)) ih

told_single : (c : ℕ) (t s : List ℕ) → ((a : At) → ToldAt a t) → Test (c == 39) → HasNone 39 s → Told (39 ∷ (s ++ c ∷ t))
told_single c t s ih (inl q) h =
    let P : ℕ → Type 0 = λ x. Told (39 ∷ (s ++ x ∷ t)) in
    subst P (sym (eqb-true c 39 q)) (rw (append_assoc s (39 ∷ []) t) at (told_behind (39 ∷ (s ++ 39 ∷ [])) t (front_single s h) (ih outside)))
told_single c t s ih (inr q) h = rw (append_assoc s (c ∷ []) t) at (ih (in_single (s ++ c ∷ [])) (HasNone-push s c (apart c 39 q) h))

told_double : (c : ℕ) (t s m : List ℕ) → ((a : At) → ToldAt a t) → Test (c == 34) → Test (c == 92) → Inside s m → Told (34 ∷ (s ++ c ∷ t))
told_double c t s m ih (inl d) _ h =
    let P : ℕ → Type 0 = λ x. Told (34 ∷ (s ++ x ∷ t)) in
    subst P (sym (eqb-true c 34 d)) (rw (append_assoc s (34 ∷ []) t) at (told_behind (34 ∷ (s ++ 34 ∷ [])) t (front_double s m h) (ih outside)))
told_double c t s m ih (inr d) (inl b) h =
    let P : ℕ → Type 0 = λ x. Told (34 ∷ (s ++ x ∷ t)) in subst P (sym (eqb-true c 92 b)) (ih (in_double_behind_backslash s m) h)
told_double c t s m ih (inr d) (inr b) h =
    rw (append_assoc s (c ∷ []) t) at (ih (in_double (s ++ c ∷ []) (m ++ c ∷ [])) (Inside-append s m (c ∷ []) (c ∷ []) h (one c [] [] (apart c 34 d) (apart c 92 b) nothing)))

-- an inside continues after a backslash and a byte
told_on : (c : ℕ) (t s m v : List ℕ) → ((a : At) → ToldAt a t) → Inside s m → Inside (92 ∷ c ∷ []) v → Told (34 ∷ (s ++ 92 ∷ c ∷ t))
told_on c t s m v ih h k = rw (append_assoc s (92 ∷ c ∷ []) t) at (ih (in_double (s ++ 92 ∷ c ∷ []) (m ++ v)) (Inside-append s m (92 ∷ c ∷ []) v h k))

told_double_escaped : (c : ℕ) (t s m : List ℕ) → ((a : At) → ToldAt a t) → Test (c == 10) → Test (is_special c) → Inside s m → Told (34 ∷ (s ++ 92 ∷ c ∷ t))
told_double_escaped c t s m ih (inl l) _ h =
    let P : ℕ → Type 0 = λ x. Told (34 ∷ (s ++ 92 ∷ x ∷ t)) in subst P (sym (eqb-true c 10 l)) (told_on 10 t s m [] ih h (line_end [] [] nothing))
told_double_escaped c t s m ih (inr l) (inl sp) h = told_on c t s m (c ∷ []) ih h (special c [] [] sp nothing)
told_double_escaped c t s m ih (inr l) (inr sp) h = told_on c t s m (92 ∷ c ∷ []) ih h (other c [] [] sp (apart c 10 l) nothing)

told_at : (t : List ℕ) (a : At) → ToldAt a t
told_at [] outside = inl ([], end)
told_at [] behind_backslash = inr (errors.LastBackslash, last_backslash [] [] end)
told_at [] (in_single s) = λ h. inr (errors.OpenQuote, rw append-nil (open_single [] s [] end h))
told_at [] (in_double s m) = λ h. inr (errors.OpenQuote, rw append-nil (open_double [] s m [] end h))
told_at [] (in_double_behind_backslash s m) = λ h. inr (errors.OpenQuote, open_escape [] s m [] end h)
told_at (c ∷ t) outside = told_outside c t (told_at t) (cases_Bool (is_blank c)) (cases_Bool (c == 92)) (cases_Bool (c == 39)) (cases_Bool (c == 34))
told_at (c ∷ t) behind_backslash = told_escaped c t (told_at t outside) (cases_Bool (c == 10))
told_at (c ∷ t) (in_single s) = λ h. told_single c t s (told_at t) (cases_Bool (c == 39)) h
told_at (c ∷ t) (in_double s m) = λ h. told_double c t s m (told_at t) (cases_Bool (c == 34)) (cases_Bool (c == 92)) h
told_at (c ∷ t) (in_double_behind_backslash s m) = λ h. told_double_escaped c t s m (told_at t) (cases_Bool (c == 10)) (cases_Bool (is_special c)) h

-- the result of reading is what the text says
abbrev Means : List ℕ → Said → Type 0
Means text (Ok words) = AreWords text words
Means text (Err e) = IsBroken text e

means_told : (text : List ℕ) → Told text → Means text (read_from mode.Plain None text)
means_told text (inl (ps, p)) =
    let a : AreWords text (joined None ps) = (ps, p, refl) in subst (Means text) (sym (words_read text (joined None ps) a)) a
means_told text (inr (e, b)) = subst (Means text) (sym (broken_read text e b)) b

pub read_means : (text : List ℕ) (said : Said) → read_from mode.Plain None text ≡ said → Means text said
read_means text said e = subst (Means text) e (means_told text (told_at text outside))

-- ---- the end of a text

pub ended-escaped : (m : Mode) (done : List (List ℕ)) (begun : Option (List ℕ)) → m ≡ mode.Escaped → before done (ended m begun) ≡ Err errors.LastBackslash
ended-escaped m done begun e = rw e refl

pub ended-open : (m : Mode) (done : List (List ℕ)) (begun : Option (List ℕ)) → (m ≡ mode.Single) ⊎ (m ≡ mode.Double) ⊎ (m ≡ mode.DoubleEscaped) → before done (ended m begun) ≡ Err errors.OpenQuote
ended-open m done begun (inl e) = rw e refl
ended-open m done begun (inr (inl e)) = rw e refl
ended-open m done begun (inr (inr e)) = rw e refl

pub ended-plain : (m : Mode) (done all : List (List ℕ)) (begun : Option (List ℕ)) → m ≡ mode.Plain → all ≡ done ++ kept begun → before done (ended m begun) ≡ Ok all
ended-plain m done all begun e h = rw (e, h) refl

pub last_step : (text : List ℕ) (i : ℕ) (m : Mode) (done : List (List ℕ)) (begun : Option (List ℕ)) (said : Said) → length text ≤ i
    → before done (read_from m begun (drop i text)) ≡ read_from mode.Plain None text → before done (ended m begun) ≡ said → Means text said
last_step text i m done begun said h e s =
    read_means text said (sym e ∙ ap (λ (rest : List ℕ). before done (read_from m begun rest)) (drop_all i text h) ∙ s)
