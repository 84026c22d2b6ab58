-- A text that is not read has a first line that is wrong.
use Rattle.std.proofs.Common.{◌≡◌, ℕ, ◌+◌, List, [], ◌∷◌, length, None, Result, Ok, Err, refl, ap, subst, arith}
use Rattle.std.specs.Result.{IfErr}
use Rattle.scl_catalogue.specs.Form.{Catalogue}
use Rattle.scl_catalogue_text.specs.Cutting.{parts}
use Rattle.scl_catalogue_text.specs.Lines.{SoFar, lines_read, read, with_line}
use Rattle.scl_catalogue_text.specs.Outcome.{ReadsText, after_line, at_line}
use Rattle.scl_catalogue_text.specs.Wrong.{IsFirstWrong, IsWrong}
use Rattle.scl_catalogue_text.specs.declared.mistake.BadLine.{BadLine}
use Rattle.scl_catalogue_text.specs.declared.mistake.Mistake.{Mistake}
use Rattle.scl_catalogue_text.specs.declared.mistake.ReadError.{ReadError}
use Rattle.scl_catalogue_text.specs.declared.mistake.ReadError.TheVariants as error

abbrev wrong_at : BadLine → Result Catalogue BadLine
wrong_at bad = Err bad

same-line : (a b : BadLine) → wrong_at a ≡ wrong_at b → a ≡ b
same-line a b h = cc

-- the line is wrong itself
itself : (line : List ℕ) (lines : List (List ℕ)) (n : ℕ) (s : SoFar) (m : Mistake) → with_line s line ≡ Err m → IsFirstWrong n s (line ∷ lines) (record { line = n; mistake = m })
itself line lines n s m h = record { front = []; line = line; rest = lines; so_far = s; is = refl; number = omega arith; right = refl; wrong = h }

-- the line is read, and one after it is wrong
behind : (line : List ℕ) (lines : List (List ℕ)) (n : ℕ) (s next : SoFar) (bad : BadLine) → with_line s line ≡ Ok next → IsFirstWrong (n + 1) next lines bad → IsFirstWrong n s (line ∷ lines) bad
behind line lines n s next bad h w = record {
  front = line ∷ w.front;
  line = w.line;
  rest = w.rest;
  so_far = w.so_far;
  is = ap (λ all. line ∷ all) w.is;
  number = (let e : bad.line ≡ n + 1 + length w.front = w.number in omega arith);
  right = rw h w.right;
  wrong = w.wrong;
}

step-wrong : (line : List ℕ) (lines : List (List ℕ)) (n : ℕ) (s : SoFar) (bad : BadLine) (r : Result SoFar Mistake) → with_line s line ≡ r
    → ((next : SoFar) → lines_read (n + 1) next lines ≡ Err bad → IsFirstWrong (n + 1) next lines bad) → after_line (at_line n r) (λ next. lines_read (n + 1) next lines) ≡ Err bad → IsFirstWrong n s (line ∷ lines) bad
step-wrong line lines n s bad (Ok next) e others h = behind line lines n s next bad e (others next h)
step-wrong line lines n s bad (Err m) e others h =
    let at : BadLine = record { line = n; mistake = m } in
    let P : BadLine → Type 0 = λ other. IsFirstWrong n s (line ∷ lines) other in
    subst P (same-line at bad h) (itself line lines n s m e)

first-wrong : (lines : List (List ℕ)) (n : ℕ) (s : SoFar) (bad : BadLine) → lines_read n s lines ≡ Err bad → IsFirstWrong n s lines bad
first-wrong [] n s bad h = cc
first-wrong (line ∷ lines) n s bad h = step-wrong line lines n s bad (with_line s line) refl (λ next k. first-wrong lines (n + 1) next bad k) h

error-wrong : (text : List ℕ) (e : ReadError) → ReadsText {A = Catalogue} {B = Catalogue} (λ c. c) (Err e) (read text) → IsWrong text e
unfolding read
error-wrong text (error.BadLine bad) h = first-wrong (parts 10 text) 1 (record { groups = []; entries = []; last = None }) bad h
error-wrong text error.Memory h = tt

pub is_wrong : {A : Type 0} (view : A → Catalogue) (result : Result A ReadError) (text : List ℕ) → ReadsText view result (read text) → IfErr result (IsWrong text)
is_wrong view (Ok x) text h = tt
is_wrong view (Err e) text h = error-wrong text e h
