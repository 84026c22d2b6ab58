-- A lookup: questions about a machine, round by round, until there is a value, or it is known that there is none.
use Rattle.std.specs.Prelude.{◌≡◌, ℕ, zero, suc, List, [], ◌∷◌, ◌++◌, Option, None, Some}
use Rattle.std.specs.Option.{option_zip}
use Rattle.scl_lookup.specs.Questions.{Question, Answer, Machine}

-- an answer to each question, in order
abbrev pub Answers : List Question → Type 0
Answers [] = Unit {0}
Answers (question ∷ questions) = Answer question × Answers questions

abbrev pub answers_on : Machine → (questions : List Question) → Answers questions
answers_on m [] = tt
answers_on m (question ∷ questions) = (m question, answers_on m questions)

-- there is a value; there is none; or these are asked at once, and their answers say how it goes on
pub data Lookup (A : Type 0) : Type 0 where
  found : (value : A) → Lookup A
  nothing : Lookup A
  ask : (questions : List Question) → (behind : Answers questions → Lookup A) → Lookup A

-- the value on a machine, if there is one
abbrev pub value_on : {A : Type 0} → Machine → Lookup A → Option A
value_on m (found value) = Some value
value_on m nothing = None
value_on m (ask questions behind) = value_on m (behind (answers_on m questions))

-- it asks so many times at most
abbrev pub IsWithin : {A : Type 0} → ℕ → Lookup A → Type 0
IsWithin n (found value) = Unit {0}
IsWithin n nothing = Unit {0}
IsWithin zero (ask questions behind) = ⊥
IsWithin (suc n) (ask questions behind) = (answers : Answers questions) → IsWithin n (behind answers)

-- ---- lookups of lookups

-- the answer to one question
abbrev pub asked : (question : Question) → Lookup (Answer question)
asked question = ask (question ∷ []) (λ answers. found answers.0)

abbrev pub found_if : {A : Type 0} → Option A → Lookup A
found_if None = nothing
found_if (Some value) = found value

-- one after the other, which has the value of the first
abbrev pub and_then : {A B : Type 0} → Lookup A → (A → Lookup B) → Lookup B
and_then (found value) more = more value
and_then nothing more = nothing
and_then (ask questions behind) more = ask questions (λ answers. and_then (behind answers) more)

-- the answers to the first questions, and to the others
abbrev pub first_answers : (questions others : List Question) → Answers (questions ++ others) → Answers questions
first_answers [] others answers = tt
first_answers (question ∷ questions) others answers = (answers.0, first_answers questions others answers.1)

abbrev pub other_answers : (questions others : List Question) → Answers (questions ++ others) → Answers others
other_answers [] others answers = answers
other_answers (question ∷ questions) others answers = other_answers questions others answers.1

-- both values; what both ask is asked in one round
abbrev pub both : {A B : Type 0} → Lookup A → Lookup B → Lookup (A × B)
both (found value) other = and_then other (λ second. found (value, second))
both nothing other = nothing
both (ask questions behind) (found second) = ask questions (λ answers. both (behind answers) (found second))
both (ask questions behind) nothing = nothing
both (ask questions behind) (ask others beyond) =
    ask (questions ++ others) (λ answers. both (behind (first_answers questions others answers)) (beyond (other_answers questions others answers)))

-- the values of all, which are asked at once
abbrev pub all_of : {A : Type 0} → List (Lookup A) → Lookup (List A)
all_of [] = found []
all_of (first ∷ rest) = and_then (both first (all_of rest)) (λ values. found (values.0 ∷ values.1))

-- ---- laws

-- Two that are asked at once have both values, and take no more rounds than one.
abbrev pub BothAreBoth : Type 0 → Type 0
BothAreBoth A = (m : Machine) (one other : Lookup A) → value_on m (both one other) ≡ option_zip (value_on m one) (value_on m other)

abbrev pub BothAreWithin : Type 0 → Type 0
BothAreWithin A = (n : ℕ) (one other : Lookup A) → IsWithin n one → IsWithin n other → IsWithin n (both one other)
