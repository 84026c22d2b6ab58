-- A lookup in rounds, over the replies so far.
use Rattle.std.specs.Prelude.{◌≡◌, ℕ, zero, suc, nat_le, cond, List, [], ◌∷◌, ◌++◌, length, drop, map, Option, None, Some}
use Rattle.std.specs.Option.{option_and_then, option_map_or}
use Rattle.scl_lookup.specs.Lists.{Agree}
use Rattle.scl_lookup.specs.Questions.{Question, Machine}
use Rattle.scl_questions.specs.Answers.{Reply, reply_on, told}
use Rattle.scl_questions.specs.Rounds.{Round, over, asks, refused, joined, round}

-- what a round asks on a machine; none: there is no value
abbrev pub Stage : Type 0
Stage = Machine → Option (List Question)

-- what is said to a caller: what to look up; the end, with the value if there is one; or that the reply of this number is refused
pub data Said (A : Type 0) : Type 0 where
  looks_up : (questions : List Question) → Said A
  ends : (value : Option A) → Said A
  refuses : (number : ℕ) → Said A

abbrev pub said_by : {A : Type 0} → Round → (asked : Said A) → (behind : Said A) → Said A
said_by over asked behind = behind
said_by asks asked behind = asked
said_by (refused number) asked behind = refuses number

-- What is said after these replies. Each round asks what was not asked before; one that is answered is followed by the next. A reply
-- that nothing asked for is refused.
abbrev pub said : {A : Type 0} → (value : Machine → Option A) → List Stage → (asked : List Question) → List Reply → Said A
said value [] asked replies = cond (nat_le (length replies) (length asked)) (ends (value (told asked replies))) (refuses (length asked))
said value (stage ∷ stages) asked replies =
    option_map_or
    (λ questions. let all = joined asked questions in said_by (round (length asked) all replies) (looks_up (drop (length asked) all)) (said value stages all replies))
    (stage (told asked replies)) (ends None)

-- the value on a machine, if no round says that there is none
abbrev pub value_on : {A : Type 0} → Machine → (value : Machine → Option A) → List Stage → Option A
value_on m value [] = value m
value_on m value (stage ∷ stages) = option_and_then (λ questions. value_on m value stages) (stage m)

-- each round, and the value, depends on what the machine answers to what was asked before, and on nothing else
abbrev pub AreDecided : {A : Type 0} → Machine → (value : Machine → Option A) → List Stage → (asked : List Question) → Type 0
AreDecided m value [] asked = (w : Machine) → Agree w m asked → value w ≡ value m
AreDecided m value (stage ∷ stages) asked =
    ((w : Machine) → Agree w m asked → stage w ≡ stage m) × ((questions : List Question) → stage m ≡ Some questions → AreDecided m value stages (joined asked questions))

abbrev pub go_on : {A : Type 0} → Said A → (List Question → Said A) → Said A
go_on (looks_up questions) more = more questions
go_on (ends value) more = ends value
go_on (refuses number) more = refuses number

-- what is said at last to a caller that answers truly, in so many rounds
abbrev pub talk : {A : Type 0} → ℕ → Machine → (value : Machine → Option A) → List Stage → List Reply → Said A
talk zero m value stages replies = said value stages [] replies
talk (suc n) m value stages replies = go_on (said value stages [] replies) (λ questions. talk n m value stages (replies ++ map (reply_on m) questions))

-- A caller that answers truly gets the value on its machine, in as many rounds as there are.
abbrev pub TalksEnd : Type 0 → Type 0
TalksEnd A = (m : Machine) (value : Machine → Option A) (stages : List Stage) → AreDecided m value stages [] → talk (length stages) m value stages [] ≡ ends (value_on m value stages)
