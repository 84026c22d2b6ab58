-- What is said to a caller, round by round, and what the caller does.
use Rattle.std.specs.Prelude.{◌≡◌, ◌≤◌, ℕ, zero, suc, not, List, [], ◌∷◌, filter, Option, None, Some, is_some}
use Rattle.std.specs.Option.{option_map_or, option_zip}
use Rattle.scl_values.specs.Each.{Each}
use Rattle.scl_lookup.specs.Questions.{Question, Answer, Machine}
use Rattle.scl_lookup.specs.Lookups.{Answers, Lookup, found, nothing, ask, value_on, IsWithin}

-- what was answered so far
abbrev pub Known : Type 0
Known = (question : Question) → Option (Answer question)

-- the answers, if all are known
abbrev pub answers_in : Known → (questions : List Question) → Option (Answers questions)
answers_in known [] = Some tt
answers_in known (question ∷ questions) = option_zip (known question) (answers_in known questions)

-- the questions that are not answered
abbrev pub lacking : Known → List Question → List Question
lacking known questions = filter (λ question. not (is_some (known question))) questions

-- what is said next: what to look up, or the end
pub data Next (A : Type 0) : Type 0 where
  look_up : (questions : List Question) → Next A
  ends : (value : Option A) → Next A

abbrev pub next : {A : Type 0} → Known → Lookup A → Next A
next known (found value) = ends (Some value)
next known nothing = ends None
next known (ask questions behind) = option_map_or (λ answers. next known (behind answers)) (answers_in known questions) (look_up (lacking known questions))

-- a caller: what it knows when it has looked up these
abbrev pub Caller : Type 0
Caller = Known → List Question → Known

abbrev pub IsTrueOf : Machine → Known → Type 0
IsTrueOf m known = (question : Question) (answer : Answer question) → known question ≡ Some answer → answer ≡ m question

-- it answers all that it is asked, truly, and forgets nothing
pub record IsHonest (m : Machine) (caller : Caller) : Type 0 where
  pub answers : (known : Known) (questions : List Question) → Each (λ question. caller known questions question ≡ Some (m question)) questions
  pub keeps : (known : Known) (questions : List Question) (question : Question) (answer : Answer question) → known question ≡ Some answer → caller known questions question ≡ Some answer
  pub is_true : (known : Known) (questions : List Question) → IsTrueOf m known → IsTrueOf m (caller known questions)

abbrev pub go_on : {A : Type 0} → Next A → (List Question → Next A) → Next A
go_on (look_up questions) more = more questions
go_on (ends value) more = ends value

-- what is said at last, if the caller looks things up so many times
abbrev pub talk : {A : Type 0} → ℕ → Caller → Known → Lookup A → Next A
talk zero caller known lookup = next known lookup
talk (suc n) caller known lookup = go_on (next known lookup) (λ questions. talk n caller (caller known questions) lookup)

-- With an honest caller it ends after as many rounds as it has, with the value on the machine.
abbrev pub LookupsEnd : Type 0 → Type 0
LookupsEnd A =
    (m : Machine) (caller : Caller) → IsHonest m caller
    → (lookup : Lookup A) (n k : ℕ) (known : Known) → IsTrueOf m known → IsWithin n lookup → n ≤ k → talk k caller known lookup ≡ ends (value_on m lookup)
