-- What of a version counts is a beginning of its text.
use Rattle.std.proofs.Common.{◌≡◌, ℕ, ◌+◌, ◌≤◌, List, [], ◌∷◌, ◌++◌, Option, Some, None, ap, sym, subst, ◌∙◌, length, take, inl, inr, arith, append_assoc}
use Rattle.std.proofs.lemmas.Bool.Decides.{eqb_tells}
use Rattle.std.proofs.lemmas.List.{length-append}
use Rattle.std.proofs.Math.Seq.{take-append_seam}
use Rattle.scl_description.specs.Lines.{cut_at, with_first}
use Rattle.scl_describe.specs.Hazards.{before_second_dot, major_and_minor, with_minor}

abbrev Joins : ℕ → List ℕ → Option (List ℕ × List ℕ) → Type 0
Joins m bs None = Unit {0}
Joins m bs (Some parts) = bs ≡ parts.0 ++ m ∷ parts.1

with-first-joins : (x m : ℕ) (bs : List ℕ) (o : Option (List ℕ × List ℕ)) → Joins m bs o → Joins m (x ∷ bs) (with_first x o)
with-first-joins x m bs None j = tt
with-first-joins x m bs (Some parts) j = ap (λ ys. x ∷ ys) j

-- the parts of bytes that are cut, with the mark between them, are the bytes
joins : (m : ℕ) (bs : List ℕ) → Joins m bs (cut_at m bs)
joins m [] = tt
joins m (x ∷ xs) = elim (eqb_tells x m) [ inl p ↦ rw p.0 (ap (λ y. y ∷ xs) p.1) | inr p ↦ rw p.0 (with-first-joins x m xs (cut_at m xs) (joins m xs)) ]

module _ (text major rest minor last : List ℕ) (h : cut_at 46 text ≡ Some (major, rest)) (k : cut_at 46 rest ≡ Some (minor, last)) where
  whole : text ≡ (major ++ 46 ∷ minor) ++ 46 ∷ last
  whole = subst (Joins 46 text) h (joins 46 text) ∙ ap (λ r. major ++ 46 ∷ r) (subst (Joins 46 rest) k (joins 46 rest)) ∙ sym (append_assoc major (46 ∷ minor) (46 ∷ last))

  long : length major + 1 + length minor ≡ length (major ++ 46 ∷ minor)
  long = omega (arith, length-append major (46 ∷ minor))

  pub is-inside : length major + 1 + length minor ≤ length text
  is-inside = omega (arith, long, ap length whole, length-append (major ++ 46 ∷ minor) (46 ∷ last))

  pub two-parts : take (length major + 1 + length minor) text ≡ major_and_minor text
  two-parts =
      ap (λ n. take n text) long
      ∙ ap (take (length (major ++ 46 ∷ minor))) whole
      ∙ take-append_seam (major ++ 46 ∷ minor) (46 ∷ last)
      ∙ sym (ap (before_second_dot text) h ∙ ap (with_minor text major) k)
