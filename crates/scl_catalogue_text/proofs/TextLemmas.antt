-- Patterns, and texts of them, read again.
use Rattle.std.proofs.Common.{◌≡◌, ◌∙◌, ℕ, ◌==◌, Bool, true, false, not, ◌&&◌, ◌||◌, List, [], ◌∷◌, ◌++◌, map, Result, Ok, append_assoc, refl, ap}
use Rattle.std.proofs.lemmas.Bool.{not-true}
use Rattle.std.proofs.lemmas.List.{append-nil}
use Rattle.std.specs.List.{list_all}
use Rattle.scl_catalogue.specs.Form.{Pattern, Text}
use Rattle.scl_catalogue.specs.declared.text.How.{How}
use Rattle.scl_catalogue.specs.declared.text.How.TheVariants as how
use Rattle.scl_catalogue_text.specs.Cutting.{parts, words}
use Rattle.scl_catalogue_text.specs.Outcome.{each}
use Rattle.scl_catalogue_text.specs.Reading.{pattern_as, pattern_read, patterns_read, star_in_two, starred_parts, text_of_parts, text_read, text_with, text_without}
use Rattle.scl_catalogue_text.specs.Writable.{are_patterns, has_one, is_bytes, is_text}
use Rattle.scl_catalogue_text.specs.Written.{bytes_text, except_text, pattern_text, spaced, starred, text_text}
use Rattle.scl_catalogue_text.specs.declared.mistake.Mistake.{Mistake}
use Rattle.scl_catalogue_text.proofs.ByteLemmas.{has-bytes, is_of_bytes, of-bytes, unescaped-bytes}
use Rattle.scl_catalogue_text.proofs.SplitLemmas.{IsBehindWord, behind-blank, is_unbroken, parts-mark, parts-next, parts-one, words-spaced}
use Rattle.scl_catalogue_text.proofs.TestLemmas.{all-append, all-weaker, and-left, and-right, both, lacks-passed, lacks_mark, or-left}

-- what is written of each is read of each
pub each-written : {A : Type 0} (f : List ℕ → Result A Mistake) (g : A → List ℕ) (p : A → Bool) → ((x : A) → p x ≡ true → f (g x) ≡ Ok x) → (xs : List A) → list_all p xs ≡ true → each f (map g xs) ≡ Ok xs
each-written f g p one [] h = refl
each-written f g p one (x ∷ xs) h = rw (one x (and-left (p x) (list_all p xs) h), each-written f g p one xs (and-right (p x) (list_all p xs) h)) refl

pub all-mapped : {A : Type 0} (p : A → Bool) (q : List ℕ → Bool) (g : A → List ℕ) → ((x : A) → p x ≡ true → q (g x) ≡ true) → (xs : List A) → list_all p xs ≡ true → list_all q (map g xs) ≡ true
all-mapped p q g one [] h = refl
all-mapped p q g one (x ∷ xs) h = both (one x (and-left (p x) (list_all p xs) h)) (all-mapped p q g one xs (and-right (p x) (list_all p xs) h))

-- ---- patterns

star-last : (text : List ℕ) → has_one text ≡ true → star_in_two [] text ≡ pattern_as how.Ends text
star-last [] h = let no : false ≡ true = h in cc
star-last (b ∷ text) h = refl

starred-read : (h : How) (text : List ℕ) → lacks_mark 42 text ≡ true → has_one text ≡ true → starred_parts (parts 42 (starred h text)) ≡ pattern_as h text
unfolding starred_parts parts
starred-read how.Is text h k = ap starred_parts (parts-one 42 text h)
starred-read how.Begins text h k = ap starred_parts (parts-next 42 text [] h)
starred-read how.Ends text h k = ap starred_parts (parts-mark 42 text ∙ ap (λ ps. [] ∷ ps) (parts-one 42 text h)) ∙ star-last text k
starred-read how.Holds text h k = ap starred_parts (parts-mark 42 (text ++ 42 ∷ []) ∙ ap (λ ps. [] ∷ ps) (parts-next 42 text [] h))

abbrev pub is_pattern : Pattern → Bool
is_pattern p = is_bytes p.text

pub pattern-written : (p : Pattern) → is_pattern p ≡ true → pattern_read (pattern_text p) ≡ Ok p
unfolding pattern_read
pattern-written p h =
    rw (starred-read p.how (bytes_text p.text) (lacks-passed is_of_bytes 42 refl (bytes_text p.text) (of-bytes p.text h)) (has-bytes p.text), unescaped-bytes p.text h) refl

abbrev pub is_of_pattern : ℕ → Bool
is_of_pattern b = is_of_bytes b || b == 42

starred-bytes : (h : How) (text : List ℕ) → list_all is_of_pattern text ≡ true → list_all is_of_pattern (starred h text) ≡ true
starred-bytes how.Is text k = k
starred-bytes how.Begins text k = all-append is_of_pattern text (42 ∷ []) k refl
starred-bytes how.Ends text k = k
starred-bytes how.Holds text k = all-append is_of_pattern (42 ∷ text) (42 ∷ []) k refl

pub of-pattern : (p : Pattern) → is_pattern p ≡ true → list_all is_of_pattern (pattern_text p) ≡ true
of-pattern p h = starred-bytes p.how (bytes_text p.text) (all-weaker is_of_bytes is_of_pattern (λ b k. or-left (is_of_bytes b) (b == 42) k) (bytes_text p.text) (of-bytes p.text h))

one-starred : (h : How) (text : List ℕ) → has_one text ≡ true → has_one (starred h text) ≡ true
one-starred how.Is text k = k
one-starred how.Begins [] k = refl
one-starred how.Begins (b ∷ text) k = refl
one-starred how.Ends text k = refl
one-starred how.Holds text k = refl

pub pattern-unbroken : (p : Pattern) → is_pattern p ≡ true → is_unbroken (pattern_text p) ≡ true
pattern-unbroken p h = both (one-starred p.how (bytes_text p.text) (has-bytes p.text)) (lacks-passed is_of_pattern 32 refl (pattern_text p) (of-pattern p h))

pub patterns-written : (p : Pattern) (ps : List Pattern) → are_patterns (p ∷ ps) ≡ true → patterns_read (spaced (map pattern_text (p ∷ ps))) ≡ Ok (p ∷ ps)
unfolding patterns_read
patterns-written p ps h =
    let cut : words (spaced (map pattern_text (p ∷ ps))) ≡ map pattern_text (p ∷ ps) = words-spaced (map pattern_text (p ∷ ps)) (all-mapped is_pattern is_unbroken pattern_text pattern-unbroken (p ∷ ps) h) in
    rw (cut, each-written pattern_read pattern_text is_pattern pattern-written (p ∷ ps) h) refl

abbrev pub is_of_patterns : ℕ → Bool
is_of_patterns b = is_of_pattern b || b == 32

pub spaced-bytes : (p : ℕ → Bool) → p 32 ≡ true → (ws : List (List ℕ)) → list_all (list_all p) ws ≡ true → list_all p (spaced ws) ≡ true
spaced-bytes p h [] k = refl
spaced-bytes p h (w ∷ ws) k = all-append p (32 ∷ w) (spaced ws) (both h (and-left (list_all p w) (list_all (list_all p) ws) k)) (spaced-bytes p h ws (and-right (list_all p w) (list_all (list_all p) ws) k))

pattern-of-patterns : (p : Pattern) → is_pattern p ≡ true → list_all is_of_patterns (pattern_text p) ≡ true
pattern-of-patterns p h = all-weaker is_of_pattern is_of_patterns (λ b k. or-left (is_of_pattern b) (b == 32) k) (pattern_text p) (of-pattern p h)

of-patterns : (ps : List Pattern) → are_patterns ps ≡ true → list_all is_of_patterns (spaced (map pattern_text ps)) ≡ true
of-patterns ps h = spaced-bytes is_of_patterns refl (map pattern_text ps) (all-mapped is_pattern (list_all is_of_patterns) pattern_text pattern-of-patterns ps h)

-- ---- texts

parts-text : (any but : List Pattern) → are_patterns any ≡ true → are_patterns but ≡ true → has_one any ≡ true → text_of_parts (parts 33 (spaced (map pattern_text any) ++ except_text but)) ≡ Ok (record { any = any; but = but })
unfolding text_of_parts text_with text_without
parts-text [] but h k o = let no : false ≡ true = o in cc
parts-text (p ∷ ps) [] h k o =
    let e : parts 33 (spaced (map pattern_text (p ∷ ps))) ≡ spaced (map pattern_text (p ∷ ps)) ∷ [] = parts-one 33 (spaced (map pattern_text (p ∷ ps))) (lacks-passed is_of_patterns 33 refl (spaced (map pattern_text (p ∷ ps))) (of-patterns (p ∷ ps) h)) in
    ap (λ text. text_of_parts (parts 33 text)) (append-nil (spaced (map pattern_text (p ∷ ps)))) ∙ (ap text_of_parts e ∙ rw (patterns-written p ps h) refl)
parts-text (p ∷ ps) (q ∷ qs) h k o =
    let first : parts 33 (spaced (map pattern_text (p ∷ ps)) ++ 33 ∷ spaced (map pattern_text (q ∷ qs))) ≡ spaced (map pattern_text (p ∷ ps)) ∷ parts 33 (spaced (map pattern_text (q ∷ qs))) = parts-next 33 (spaced (map pattern_text (p ∷ ps))) (spaced (map pattern_text (q ∷ qs))) (lacks-passed is_of_patterns 33 refl (spaced (map pattern_text (p ∷ ps))) (of-patterns (p ∷ ps) h)) in
    let second : parts 33 (spaced (map pattern_text (q ∷ qs))) ≡ spaced (map pattern_text (q ∷ qs)) ∷ [] = parts-one 33 (spaced (map pattern_text (q ∷ qs))) (lacks-passed is_of_patterns 33 refl (spaced (map pattern_text (q ∷ qs))) (of-patterns (q ∷ qs) k)) in
    ap text_of_parts (first ∙ ap (λ rest. spaced (map pattern_text (p ∷ ps)) ∷ rest) second) ∙ rw (patterns-written p ps h, patterns-written q qs k) refl

pub text-written : (t : Text) → is_text t ≡ true → text_read (text_text t) ≡ Ok t
unfolding text_read
text-written t h =
    let each : (are_patterns t.any && are_patterns t.but) ≡ true = and-right (has_one t.any) (are_patterns t.any && are_patterns t.but) h in
    parts-text t.any t.but (and-left (are_patterns t.any) (are_patterns t.but) each) (and-right (are_patterns t.any) (are_patterns t.but) each) (and-left (has_one t.any) (are_patterns t.any && are_patterns t.but) h)

abbrev pub is_of_text : ℕ → Bool
is_of_text b = is_of_patterns b || b == 33

text-of-patterns : (ps : List Pattern) → are_patterns ps ≡ true → list_all is_of_text (spaced (map pattern_text ps)) ≡ true
text-of-patterns ps h = all-weaker is_of_patterns is_of_text (λ b k. or-left (is_of_patterns b) (b == 33) k) (spaced (map pattern_text ps)) (of-patterns ps h)

except-bytes : (ps : List Pattern) → are_patterns ps ≡ true → list_all is_of_text (except_text ps) ≡ true
except-bytes [] h = refl
except-bytes (p ∷ ps) h = text-of-patterns (p ∷ ps) h

pub of-text : (t : Text) → is_text t ≡ true → list_all is_of_text (text_text t) ≡ true
of-text t h =
    let each : (are_patterns t.any && are_patterns t.but) ≡ true = and-right (has_one t.any) (are_patterns t.any && are_patterns t.but) h in
    all-append is_of_text (spaced (map pattern_text t.any)) (except_text t.but)
    (text-of-patterns t.any (and-left (are_patterns t.any) (are_patterns t.but) each)) (except-bytes t.but (and-right (are_patterns t.any) (are_patterns t.but) each))

-- a text begins with a blank, and goes on with a word
pub record BeginsWord (xs : List ℕ) : Type 0 where
  pub first : ℕ
  pub others : List ℕ
  pub is : xs ≡ 32 ∷ first ∷ others
  pub no_blank : (first == 32) ≡ false

begins : (w xs : List ℕ) → is_unbroken w ≡ true → BeginsWord (32 ∷ (w ++ xs))
begins [] xs h = let no : false ≡ true = h in cc
begins (b ∷ w) xs h = record { first = b; others = w ++ xs; is = refl; no_blank = not-true (b == 32) (and-left (not (b == 32)) (lacks_mark 32 w) h) }

begins-patterns : (any : List Pattern) (xs : List ℕ) → are_patterns any ≡ true → has_one any ≡ true → BeginsWord (spaced (map pattern_text any) ++ xs)
begins-patterns [] xs h o = let no : false ≡ true = o in cc
begins-patterns (p ∷ ps) xs h o =
    let r = begins (pattern_text p) (spaced (map pattern_text ps) ++ xs) (pattern-unbroken p (and-left (is_pattern p) (are_patterns ps) h)) in
    record { first = r.first; others = r.others; is = (append_assoc (32 ∷ pattern_text p) (spaced (map pattern_text ps)) xs) ∙ r.is; no_blank = r.no_blank }

pub begins-text : (t : Text) → is_text t ≡ true → BeginsWord (text_text t)
begins-text t h = begins-patterns t.any (except_text t.but) (and-left (are_patterns t.any) (are_patterns t.but) (and-right (has_one t.any) (are_patterns t.any && are_patterns t.but) h)) (and-left (has_one t.any) (are_patterns t.any && are_patterns t.but) h)

pub behind-text : (xs : List ℕ) → BeginsWord xs → IsBehindWord xs
behind-text xs r = rw r.is (behind-blank (r.first ∷ r.others))
