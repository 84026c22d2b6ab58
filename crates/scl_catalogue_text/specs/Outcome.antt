-- What is read of a part of a text, or the mistake in it.
use Rattle.std.specs.Prelude.{◌≡◌, cond, ℕ, List, [], ◌∷◌, Option, None, Some, Result, Ok, Err}
use Rattle.scl_catalogue_text.specs.Cutting.{first_word, is_word}
use Rattle.scl_catalogue_text.specs.declared.mistake.BadLine.{BadLine}
use Rattle.scl_catalogue_text.specs.declared.mistake.Mistake.{Mistake}
use Rattle.scl_catalogue_text.specs.declared.mistake.Mistake.TheVariants as mistake
use Rattle.scl_catalogue_text.specs.declared.mistake.ReadError.{ReadError}
use Rattle.scl_catalogue_text.specs.declared.mistake.ReadError.TheVariants as error
use Rattle.scl_catalogue_text.specs.declared.mistake.Stop.{Stop}
use Rattle.scl_catalogue_text.specs.declared.mistake.Stop.TheVariants as stop

-- ---- a part of a text

-- what is read after it, or its mistake
abbrev pub after : {A B : Type 0} → Result A Mistake → (A → Result B Mistake) → Result B Mistake
after (Ok x) f = f x
after (Err m) f = Err m

-- what is read of each, or the first mistake
abbrev pub each : {A B : Type 0} → (A → Result B Mistake) → List A → Result (List B) Mistake
each f [] = Ok []
each f (x ∷ xs) = after (f x) (λ y. after (each f xs) (λ ys. Ok (y ∷ ys)))

abbrev pub or_mistake : {A : Type 0} → Mistake → Option A → Result A Mistake
or_mistake m None = Err m
or_mistake m (Some x) = Ok x

-- where no word is left
abbrev pub at_end : {A : Type 0} → List ℕ → A → Result A Mistake
at_end bs x = cond (is_word (first_word bs)) (Err mistake.TooManyWords) (Ok x)

-- where a call stopped: out of memory says nothing of the text
abbrev pub StopsAt : {A : Type 0} → Stop → Result A Mistake → Type 0
StopsAt (stop.Mistake m) r = r ≡ Err m
StopsAt stop.Memory r = Unit {0}

-- a call gives what is read, or its mistake
abbrev pub Reads : {A B : Type 0} → (A → B) → Result A Stop → Result B Mistake → Type 0
Reads view (Ok x) r = r ≡ Ok (view x)
Reads view (Err s) r = StopsAt s r

-- ---- a text, and the first of its lines that is wrong

abbrev pub at_line : {A : Type 0} → ℕ → Result A Mistake → Result A BadLine
at_line n (Ok x) = Ok x
at_line n (Err m) = Err (record { line = n; mistake = m })

abbrev pub after_line : {A B : Type 0} → Result A BadLine → (A → Result B BadLine) → Result B BadLine
after_line (Ok x) f = f x
after_line (Err bad) f = Err bad

-- the error of a call that stopped in this line
abbrev pub IsBadLine : ℕ → Stop → ReadError → Type 0
IsBadLine n (stop.Mistake m) e = e ≡ error.BadLine (record { line = n; mistake = m })
IsBadLine n stop.Memory e = e ≡ error.Memory

abbrev pub ReadsTextNot : {A : Type 0} → ReadError → Result A BadLine → Type 0
ReadsTextNot (error.BadLine bad) r = r ≡ Err bad
ReadsTextNot error.Memory r = Unit {0}

-- a call gives what is read, or the first line that is wrong
abbrev pub ReadsText : {A B : Type 0} → (A → B) → Result A ReadError → Result B BadLine → Type 0
ReadsText view (Ok x) r = r ≡ Ok (view x)
ReadsText view (Err e) r = ReadsTextNot e r
