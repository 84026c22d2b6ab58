-- Questions are one where they are the same.
use Rattle.std.proofs.Common.{◌≡◌, ℕ, ◌==◌, true, cond, List, [], ◌∷◌, refl, sym, ap, ◌∙◌}
use Rattle.std.proofs.lemmas.Bool.{and_parts, and_from, eq-eqb, eqb-true}
use Rattle.std.proofs.lemmas.Slice.Eq.{bytes_eq-Decides}
use lib.Pointwise.{pointwise}
use Rattle.std.specs.Str.{bytes_eq}
use Rattle.scl_lookup.specs.Questions.{Question, env, program, file, bytes, names, real, times, run}
use Rattle.scl_questions.specs.Same.{kind, subject, same}

-- ---- words

words_one : (a b : List (List ℕ)) → pointwise bytes_eq a b ≡ true → a ≡ b
words_one [] [] h = refl
words_one [] (y ∷ b) h = absurd (cc)
words_one (x ∷ a) [] h = absurd (cc)
words_one (x ∷ a) (y ∷ b) h = let parts = and_parts (bytes_eq x y) (pointwise bytes_eq a b) h in ap (λ z. z ∷ a) ((bytes_eq-Decides x y).0 parts.0) ∙ ap (λ zs. y ∷ zs) (words_one a b parts.1)

words_self : (a : List (List ℕ)) → pointwise bytes_eq a a ≡ true
words_self [] = refl
words_self (x ∷ a) = and_from (bytes_eq x x) (pointwise bytes_eq a a) ((bytes_eq-Decides x x).1 refl) (words_self a)

-- ---- a question is read back from its kind and its subject

abbrev first : List (List ℕ) → List ℕ
first [] = []
first (word ∷ words) = word

abbrev others : List (List ℕ) → List (List ℕ)
others [] = []
others (word ∷ words) = words

abbrev back : ℕ → List (List ℕ) → Question
back k words =
    cond (k == 0) (env (first words))
    (cond (k == 1) (program (first words))
    (cond (k == 2) (file (first words))
    (cond (k == 3) (bytes (first words))
    (cond (k == 4) (names (first words))
    (cond (k == 5) (real (first words))
    (cond (k == 6) (times (first words)) (run (first words) (others words))))))))

read_back : (q : Question) → back (kind q) (subject q) ≡ q
read_back (env name) = refl
read_back (program name) = refl
read_back (file path) = refl
read_back (bytes path) = refl
read_back (names path) = refl
read_back (real path) = refl
read_back (times path) = refl
read_back (run language words) = refl

pub same_one : (a b : Question) → same a b ≡ true → a ≡ b
same_one a b h =
    let parts = and_parts (kind a == kind b) (pointwise bytes_eq (subject a) (subject b)) h in
    sym (read_back a) ∙ ap (λ k. back k (subject a)) (eqb-true (kind a) (kind b) parts.0) ∙ ap (back (kind b)) (words_one (subject a) (subject b) parts.1) ∙ read_back b

pub same_self : (q : Question) → same q q ≡ true
same_self q = and_from (kind q == kind q) (pointwise bytes_eq (subject q) (subject q)) (eq-eqb (kind q) (kind q) refl) (words_self (subject q))
