-- Reading a GNU text by characters gives the arguments of its pieces.
use Rattle.std.proofs.Common.{◌≡◌, ◌≢◌, ℕ, ◌==◌, Bool, true, false, List, [], ◌∷◌, ◌++◌, encode_utf8, encode_utf8_all, refl, sym, ap, subst, ◌∙◌, append_assoc, arith, length, ◌⊎◌, inl, inr}
use Rattle.std.proofs.lemmas.List.{append-nil}
use Rattle.std.proofs.lemmas.Bool.{eqb-true, cases_Bool}
use Rattle.std.proofs.lemmas.Str.{chars_past_char, IsUtf8-past_char, chars-nil}
use Rattle.std.specs.Str.{chars, IsUtf8}
use Rattle.scl_files.specs.GnuText.{is_gnu_separator, Piece, Inside, nothing, one, pair, HasNone, none, more, ArePieces, end, separator, plain, escaped, lone, single, open_single, double, open_double, lone_inside, At, outside, behind_backslash, in_single, in_double, in_double_behind_backslash, pieces_from, pieces, keep, joined, gnu_arguments}
use Rattle.scl_files.specs.GnuReader.{mark_of, mode_after}
use Rattle.scl_files.specs.declared.gnu_text.Mode.{Mode}
use Rattle.scl_files.specs.declared.gnu_text.Mode.TheVariants as mode
use Rattle.scl_files.specs.declared.gnu_text.Mark.{Mark}
use Rattle.scl_files.specs.declared.gnu_text.Mark.TheVariants as mark

abbrev pub put : Mark → ℕ → List ℕ → (List ℕ → List (List ℕ)) → List (List ℕ)
put mark.Separates c begun others = keep begun (others [])
put mark.Vanishes c begun others = others begun
put mark.Stands c begun others = others (begun ++ encode_utf8 c)

-- the arguments of characters that are read one by one, if an argument has begun with these bytes
abbrev pub read_from : Mode → List ℕ → List ℕ → List (List ℕ)
read_from m begun [] = keep begun []
read_from m begun (c ∷ cs) = put (mark_of m c) c begun (λ bytes. read_from (mode_after m c) bytes cs)

pub differs : (a b : ℕ) → a ≢ b → (a == b) ≡ false
differs a b h = grind arith

pub apart : (a b : ℕ) → (a == b) ≡ false → a ≢ b
apart a b h = grind arith

-- ---- what the pieces of a text are read as

read_single : (s t begun : List ℕ) → HasNone 39 s → read_from mode.Single begun (s ++ 39 ∷ t) ≡ read_from mode.Plain (begun ++ encode_utf8_all s) t
read_single [] t begun h = rw append-nil refl
read_single (c ∷ s) t begun (more _ _ ne h) = rw (differs c 39 ne) (read_single s t (begun ++ encode_utf8 c) h ∙ rw append_assoc refl)

read_open_single : (s begun : List ℕ) → HasNone 39 s → read_from mode.Single begun s ≡ keep (begun ++ encode_utf8_all s) []
read_open_single [] begun h = rw append-nil refl
read_open_single (c ∷ s) begun (more _ _ ne h) = rw (differs c 39 ne) (read_open_single s (begun ++ encode_utf8 c) h ∙ rw append_assoc refl)

read_inside : (s m t begun : List ℕ) → Inside s m → read_from mode.Double begun (s ++ t) ≡ read_from mode.Double (begun ++ encode_utf8_all m) t
read_inside _ _ t begun nothing = rw append-nil refl
read_inside _ _ t begun (one c s m a b h) = rw (differs c 34 a, differs c 92 b) (read_inside s m t (begun ++ encode_utf8 c) h ∙ rw append_assoc refl)
read_inside _ _ t begun (pair c s m h) = read_inside s m t (begun ++ encode_utf8 c) h ∙ rw append_assoc refl

-- a separator is no backslash and no quote
plain_after : (c : ℕ) → is_gnu_separator c ≡ true → mode_after mode.Plain c ≡ mode.Plain
plain_after c h = rw (differs c 92 (grind arith), differs c 39 (grind arith), differs c 34 (grind arith)) refl

by_pieces : (text : List ℕ) (ps : List Piece) (begun : List ℕ) → ArePieces text ps → read_from mode.Plain begun text ≡ joined begun ps
by_pieces _ _ begun end = refl
by_pieces _ _ begun (separator c t ps h p) = rw (h, plain_after c h) (ap (keep begun) (by_pieces t ps [] p))
by_pieces _ _ begun (plain c t ps h a b d p) = rw (h, differs c 92 a, differs c 39 b, differs c 34 d, append-nil) (by_pieces t ps (begun ++ encode_utf8 c) p)
by_pieces _ _ begun (escaped c t ps p) = rw append-nil (by_pieces t ps (begun ++ encode_utf8 c) p)
by_pieces _ _ begun lone = rw append-nil refl
by_pieces _ _ begun (single s t ps h p) = read_single s t begun h ∙ by_pieces t ps (begun ++ encode_utf8_all s) p
by_pieces _ _ begun (open_single s h) = read_open_single s begun h
by_pieces _ _ begun (double s m t ps h p) = read_inside s m (34 ∷ t) begun h ∙ by_pieces t ps (begun ++ encode_utf8_all m) p
by_pieces _ _ begun (open_double s m h) = ap (read_from mode.Double begun) (sym (append-nil s)) ∙ read_inside s m [] begun h
by_pieces _ _ begun (lone_inside s m h) = read_inside s m (92 ∷ []) begun h

-- ---- every text has pieces

abbrev Found : At → List ℕ → Type 0
Found outside t = ArePieces t (pieces_from outside t)
Found behind_backslash t = ArePieces (92 ∷ t) (pieces_from behind_backslash t)
Found (in_single m) t = HasNone 39 m → ArePieces (39 ∷ (m ++ t)) (pieces_from (in_single m) t)
Found (in_double m) t = (s : List ℕ) → Inside s m → ArePieces (34 ∷ (s ++ t)) (pieces_from (in_double m) t)
Found (in_double_behind_backslash m) t = (s : List ℕ) → Inside s m → ArePieces (34 ∷ (s ++ 92 ∷ t)) (pieces_from (in_double_behind_backslash m) t)

abbrev pub Test : Bool → Type 0
Test b = (b ≡ true) ⊎ (b ≡ false)

HasNone-push : (m : List ℕ) (c : ℕ) → c ≢ 39 → HasNone 39 m → HasNone 39 (m ++ c ∷ [])
HasNone-push _ c ne none = more c [] ne none
HasNone-push _ c ne (more d s other h) = more d (s ++ c ∷ []) other (HasNone-push s c ne h)

Inside-push : (s m : List ℕ) (c : ℕ) → c ≢ 34 → c ≢ 92 → Inside s m → Inside (s ++ c ∷ []) (m ++ c ∷ [])
Inside-push _ _ c a b nothing = one c [] [] a b nothing
Inside-push _ _ c a b (one d s m x y h) = one d (s ++ c ∷ []) (m ++ c ∷ []) x y (Inside-push s m c a b h)
Inside-push _ _ c a b (pair d s m h) = pair d (s ++ c ∷ []) (m ++ c ∷ []) (Inside-push s m c a b h)

Inside-push_pair : (s m : List ℕ) (c : ℕ) → Inside s m → Inside (s ++ 92 ∷ c ∷ []) (m ++ c ∷ [])
Inside-push_pair _ _ c nothing = pair c [] [] nothing
Inside-push_pair _ _ c (one d s m x y h) = one d (s ++ 92 ∷ c ∷ []) (m ++ c ∷ []) x y (Inside-push_pair s m c h)
Inside-push_pair _ _ c (pair d s m h) = pair d (s ++ 92 ∷ c ∷ []) (m ++ c ∷ []) (Inside-push_pair s m c h)

found_outside : (c : ℕ) (t : List ℕ) → ((a : At) → Found a t) → Test (is_gnu_separator c) → Test (c == 92) → Test (c == 39) → Test (c == 34) → Found outside (c ∷ t)
found_outside c t ih (inl s) _ _ _ = rw s (separator c t (pieces_from outside t) s (ih outside))
found_outside c t ih (inr s) (inl b) _ _ = let P : ℕ → Type 0 = λ x. ArePieces (x ∷ t) (pieces_from outside (x ∷ t)) in subst P (sym (eqb-true c 92 b)) (ih behind_backslash)
found_outside c t ih (inr s) (inr b) (inl q) _ = let P : ℕ → Type 0 = λ x. ArePieces (x ∷ t) (pieces_from outside (x ∷ t)) in subst P (sym (eqb-true c 39 q)) (ih (in_single []) none)
found_outside c t ih (inr s) (inr b) (inr q) (inl d) = let P : ℕ → Type 0 = λ x. ArePieces (x ∷ t) (pieces_from outside (x ∷ t)) in subst P (sym (eqb-true c 34 d)) (ih (in_double []) [] nothing)
found_outside c t ih (inr s) (inr b) (inr q) (inr d) = rw (s, b, q, d) (plain c t (pieces_from outside t) s (apart c 92 b) (apart c 39 q) (apart c 34 d) (ih outside))

found_single : (c : ℕ) (t m : List ℕ) → ((a : At) → Found a t) → Test (c == 39) → Found (in_single m) (c ∷ t)
found_single c t m ih (inl q) = λ h. let P : ℕ → Type 0 = λ x. ArePieces (39 ∷ (m ++ x ∷ t)) (pieces_from (in_single m) (x ∷ t)) in subst P (sym (eqb-true c 39 q)) (single m t (pieces_from outside t) h (ih outside))
found_single c t m ih (inr q) = λ h. rw q (rw append_assoc at (ih (in_single (m ++ c ∷ [])) (HasNone-push m c (apart c 39 q) h)))

found_double : (c : ℕ) (t m : List ℕ) → ((a : At) → Found a t) → Test (c == 34) → Test (c == 92) → Found (in_double m) (c ∷ t)
found_double c t m ih (inl d) _ = λ s h. let P : ℕ → Type 0 = λ x. ArePieces (34 ∷ (s ++ x ∷ t)) (pieces_from (in_double m) (x ∷ t)) in subst P (sym (eqb-true c 34 d)) (double s m t (pieces_from outside t) h (ih outside))
found_double c t m ih (inr d) (inl b) = λ s h. let P : ℕ → Type 0 = λ x. ArePieces (34 ∷ (s ++ x ∷ t)) (pieces_from (in_double m) (x ∷ t)) in subst P (sym (eqb-true c 92 b)) (ih (in_double_behind_backslash m) s h)
found_double c t m ih (inr d) (inr b) = λ s h. rw (d, b) (rw append_assoc at (ih (in_double (m ++ c ∷ [])) (s ++ c ∷ []) (Inside-push s m c (apart c 34 d) (apart c 92 b) h)))

found : (t : List ℕ) (a : At) → Found a t
found [] outside = end
found [] behind_backslash = lone
found [] (in_single m) = λ h. rw append-nil (open_single m h)
found [] (in_double m) = λ s h. rw append-nil (open_double s m h)
found [] (in_double_behind_backslash m) = λ s h. lone_inside s m h
found (c ∷ t) outside = found_outside c t (found t) (cases_Bool (is_gnu_separator c)) (cases_Bool (c == 92)) (cases_Bool (c == 39)) (cases_Bool (c == 34))
found (c ∷ t) behind_backslash = escaped c t (pieces_from outside t) (found t outside)
found (c ∷ t) (in_single m) = found_single c t m (found t) (cases_Bool (c == 39))
found (c ∷ t) (in_double m) = found_double c t m (found t) (cases_Bool (c == 34)) (cases_Bool (c == 92))
found (c ∷ t) (in_double_behind_backslash m) = λ s h. rw append_assoc at (found t (in_double (m ++ c ∷ [])) (s ++ 92 ∷ c ∷ []) (Inside-push_pair s m c h))

pub are_pieces : (text : List ℕ) → ArePieces text (pieces text)
are_pieces text = found text outside

pub gnu_arguments-read : (text : List ℕ) → read_from mode.Plain [] text ≡ gnu_arguments text
unfolding gnu_arguments
gnu_arguments-read text = by_pieces text (pieces text) [] (are_pieces text)

pub joined-pieces : (text : List ℕ) (ps : List Piece) → ArePieces text ps → gnu_arguments text ≡ joined [] ps
joined-pieces text ps p = sym (gnu_arguments-read text) ∙ by_pieces text ps [] p

-- ---- one character of a loop

keep-append : (b : List ℕ) (xs : List (List ℕ)) → keep b xs ≡ keep b [] ++ xs
keep-append [] xs = refl
keep-append (x ∷ b) xs = refl

pub record Reads (bs : List ℕ) (c : ℕ) (rest : List ℕ) (m : Mode) (m' : Mode) (k : Mark) : Type 0 where
  pub utf8 : IsUtf8 bs
  pub splits : bs ≡ encode_utf8 c ++ rest
  pub mode_is : m' ≡ mode_after m c
  pub mark_is : k ≡ mark_of m c

reads : (bs rest begun : List ℕ) (c : ℕ) (m m' : Mode) (k : Mark) → Reads bs c rest m m' k → read_from m begun (chars bs) ≡ put k c begun (λ bytes. read_from m' bytes (chars rest))
reads bs rest begun c m m' k r = rw (chars_past_char bs rest c r.utf8 r.splits, r.mark_is, r.mode_is) refl

pub step-separates : (done done' total : List (List ℕ)) (bs rest begun begun' : List ℕ) (c : ℕ) (m m' : Mode) → Reads bs c rest m m' mark.Separates
    → done ++ read_from m begun (chars bs) ≡ total → done' ≡ done ++ keep begun [] → begun' ≡ [] → IsUtf8 rest × (done' ++ read_from m' begun' (chars rest) ≡ total)
step-separates done done' total bs rest begun begun' c m m' r e d b = (
  IsUtf8-past_char bs rest c r.utf8 r.splits,
  rw (d, b, append_assoc, ← keep-append begun (read_from m' [] (chars rest)), ← reads bs rest begun c m m' mark.Separates r) e,
)

pub step-vanishes : (done total : List (List ℕ)) (bs rest begun : List ℕ) (c : ℕ) (m m' : Mode) → Reads bs c rest m m' mark.Vanishes
    → done ++ read_from m begun (chars bs) ≡ total → IsUtf8 rest × (done ++ read_from m' begun (chars rest) ≡ total)
step-vanishes done total bs rest begun c m m' r e =
    (IsUtf8-past_char bs rest c r.utf8 r.splits, rw (← reads bs rest begun c m m' mark.Vanishes r) e)

pub step-stands : (done total : List (List ℕ)) (bs rest begun begun' : List ℕ) (c : ℕ) (m m' : Mode) → Reads bs c rest m m' mark.Stands
    → done ++ read_from m begun (chars bs) ≡ total → begun' ≡ begun ++ encode_utf8 c → IsUtf8 rest × (done ++ read_from m' begun' (chars rest) ≡ total)
step-stands done total bs rest begun begun' c m m' r e b =
    (IsUtf8-past_char bs rest c r.utf8 r.splits, rw (b, ← reads bs rest begun c m m' mark.Stands r) e)

pub step-end : (done total : List (List ℕ)) (bs begun : List ℕ) (m : Mode) → length bs ≡ 0 → done ++ read_from m begun (chars bs) ≡ total → done ++ keep begun [] ≡ total
step-end done total [] begun m n e = rw chars-nil at e
step-end done total (b ∷ bs) begun m n e = absurd (omega arith)
