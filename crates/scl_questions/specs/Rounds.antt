-- Rounds of questions, each answered whole before the next.
use Rattle.std.specs.Prelude.{ℕ, ◌+◌, nat_le, Bool, cond, List, [], ◌∷◌, ◌++◌, length, Option, None, Some}
use Rattle.std.specs.List.{list_any}
use Rattle.scl_lookup.specs.Questions.{Question}
use Rattle.scl_questions.specs.Same.{same}
use Rattle.scl_questions.specs.Answers.{Reply, fits}

abbrev pub was_asked : Question → List Question → Bool
was_asked question asked = list_any (λ other. same other question) asked

-- what was asked, and one more question, unless it was asked
abbrev pub with_one : List Question → Question → List Question
with_one asked question = cond (was_asked question asked) asked (asked ++ question ∷ [])

-- what was asked, and more questions, each once
abbrev pub joined : List Question → List Question → List Question
joined asked [] = asked
joined asked (question ∷ questions) = joined (with_one asked question) questions

-- the number of the first reply that is missing, or of another kind than its question
abbrev pub misfit : ℕ → List Question → List Reply → Option ℕ
misfit at [] replies = None
misfit at (question ∷ asked) [] = Some at
misfit at (question ∷ asked) (reply ∷ replies) = cond (fits question reply) (misfit (at + 1) asked replies) (Some at)

-- a round: all replies are there; none is there, so it is asked; or one is refused
pub data Round : Type 0 where
  over : Round
  asks : Round
  refused : (number : ℕ) → Round

-- by what reply is wrong first, of those after what was asked before
abbrev pub round_by : Option ℕ → Bool → Round
round_by None none_is_there = over
round_by (Some number) none_is_there = cond none_is_there asks (refused number)

abbrev pub round : (before : ℕ) → List Question → List Reply → Round
round before asked replies = round_by (misfit 0 asked replies) (nat_le (length replies) before)
