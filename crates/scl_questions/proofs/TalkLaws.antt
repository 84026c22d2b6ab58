-- A caller that answers truly gets the value.
use Rattle.std.proofs.Common.{◌≡◌, ◌≤◌, ℕ, ◌+◌, nat_le, zero, suc, Bool, true, false, cond, List, [], ◌∷◌, ◌++◌, length, drop, Option, None, Some, refl, sym, ap, ◌∙◌, append_assoc, arith}
use Rattle.std.proofs.Math.Seq.{drop-append_seam}
use Rattle.std.proofs.lemmas.Bool.{le-leb}
use Rattle.std.specs.Option.{option_and_then, option_map_or}
use Rattle.scl_lookup.specs.Questions.{Question, Machine}
use Rattle.scl_questions.specs.Answers.{Reply, reply_on, fits, told}
use Rattle.scl_questions.specs.Rounds.{joined, misfit, round, round_by, was_asked, with_one}
use Rattle.scl_questions.specs.Talks.{Stage, Said, looks_up, ends, refuses, said, said_by, value_on, AreDecided, go_on, talk, TalksEnd}
use Rattle.scl_questions.proofs.AnswerLaws.{truth, truth_both, fits_on, told_agrees}

nothing_behind : {A : Type 0} (xs : List A) → xs ++ [] ≡ xs
nothing_behind [] = refl
nothing_behind (x ∷ xs) = ap (λ rest. x ∷ rest) (nothing_behind xs)

-- ---- what is asked is added behind

abbrev Grows : List Question → List Question → Type 0
Grows asked all = (more : List Question) × (all ≡ asked ++ more)

grows_by : (b : Bool) (asked : List Question) (q : Question) (qs : List Question) → ((before : List Question) → Grows before (joined before qs)) → Grows asked (joined (cond b asked (asked ++ q ∷ [])) qs)
grows_by true asked q qs rest = rest asked
grows_by false asked q qs rest = let it = rest (asked ++ q ∷ []) in (q ∷ it.0, it.1 ∙ append_assoc asked (q ∷ []) it.0)

grows : (asked qs : List Question) → Grows asked (joined asked qs)
grows asked [] = ([], sym (nothing_behind asked))
grows asked (q ∷ qs) = grows_by (was_asked q asked) asked q qs (λ before. grows before qs)

-- ---- rounds with true replies

none_misfits : (m : Machine) (at : ℕ) (asked : List Question) (more : List Reply) → misfit at asked (truth m asked ++ more) ≡ None
none_misfits m at [] more = refl
none_misfits m at (q ∷ asked) more = ap (λ b. cond b (misfit (at + 1) asked (truth m asked ++ more)) (Some at)) (fits_on m q) ∙ none_misfits m (at + 1) asked more

first_misfits : (m : Machine) (at : ℕ) (asked : List Question) (q : Question) (more : List Question) → (n : ℕ) × (misfit at (asked ++ q ∷ more) (truth m asked) ≡ Some n)
first_misfits m at [] q more = (at, refl)
first_misfits m at (p ∷ asked) q more =
    let rest = first_misfits m (at + 1) asked q more in (rest.0, ap (λ b. cond b (misfit (at + 1) (asked ++ q ∷ more) (truth m asked)) (Some at)) (fits_on m p) ∙ rest.1)

truth_length : (m : Machine) (asked : List Question) → length (truth m asked) ≡ length asked
truth_length m [] = refl
truth_length m (q ∷ asked) = ap suc (truth_length m asked)

at_most_itself : (n : ℕ) → nat_le n n ≡ true
at_most_itself n = le-leb n n (omega arith)

-- ---- one round

-- what a round says of what it asks
abbrev then_said : {A : Type 0} → (Machine → Option A) → List Stage → List Question → List Reply → List Question → Said A
then_said value stages asked replies questions =
    let all = joined asked questions in said_by (round (length asked) all replies) (looks_up (drop (length asked) all)) (said value stages all replies)

by_stage : {A : Type 0} (m : Machine) (value : Machine → Option A) (stage : Stage) (stages : List Stage) (asked : List Question) (more : List Reply) → AreDecided m value (stage ∷ stages) asked
    → said value (stage ∷ stages) asked (truth m asked ++ more) ≡ option_map_or (then_said value stages asked (truth m asked ++ more)) (stage m) (ends None)
by_stage m value stage stages asked more decided =
    ap (λ it. option_map_or (then_said value stages asked (truth m asked ++ more)) it (ends None)) (decided.0 (told asked (truth m asked ++ more)) (told_agrees m asked more))

-- it is answered, and the next follows
is_over : {A : Type 0} (m : Machine) (value : Machine → Option A) (stage : Stage) (stages : List Stage) (asked questions : List Question) → AreDecided m value (stage ∷ stages) asked → stage m ≡ Some questions
    → (more : List Reply) → said value (stage ∷ stages) asked (truth m (joined asked questions) ++ more) ≡ said value stages (joined asked questions) (truth m (joined asked questions) ++ more)
is_over m value stage stages asked questions decided is more =
    let all = joined asked questions in
    let it = grows asked questions in
    let behind = truth m it.0 ++ more in
    let split : truth m all ++ more ≡ truth m asked ++ behind = ap (λ qs. truth m qs ++ more) it.1 ∙ ap (λ rs. rs ++ more) (truth_both m asked it.0) ∙ append_assoc (truth m asked) (truth m it.0) more in
    ap (said value (stage ∷ stages) asked) split
    ∙ by_stage m value stage stages asked behind decided
    ∙ ap (λ o. option_map_or (then_said value stages asked (truth m asked ++ behind)) o (ends None)) is
    ∙ ap (λ rs. then_said value stages asked rs questions) (sym split)
    ∙ ap (λ o. said_by (round_by o (nat_le (length (truth m all ++ more)) (length asked))) (looks_up (drop (length asked) all)) (said value stages all (truth m all ++ more))) (none_misfits m 0 all more)

-- nothing of it is answered, and it is asked
is_asked : {A : Type 0} (m : Machine) (value : Machine → Option A) (stage : Stage) (stages : List Stage) (asked questions : List Question) → AreDecided m value (stage ∷ stages) asked → stage m ≡ Some questions
    → (q : Question) (more : List Question) → joined asked questions ≡ asked ++ q ∷ more → said value (stage ∷ stages) asked (truth m asked) ≡ looks_up (q ∷ more)
is_asked m value stage stages asked questions decided is q more grown =
    let replies = truth m asked in
    let none : replies ++ [] ≡ replies = nothing_behind replies in
    let wrong = first_misfits m 0 asked q more in
    ap (said value (stage ∷ stages) asked) (sym none)
    ∙ by_stage m value stage stages asked [] decided
    ∙ ap (λ o. option_map_or (then_said value stages asked (replies ++ [])) o (ends None)) is
    ∙ ap (λ rs. then_said value stages asked rs questions) none
    ∙ ap (λ all. said_by (round (length asked) all replies) (looks_up (drop (length asked) all)) (said value stages all replies)) grown
    ∙ ap (λ o. said_by (round_by o (nat_le (length replies) (length asked))) (looks_up (drop (length asked) (asked ++ q ∷ more))) (said value stages (asked ++ q ∷ more) replies)) wrong.1
    ∙ ap (λ n. said_by (round_by (Some wrong.0) (nat_le n (length asked))) (looks_up (drop (length asked) (asked ++ q ∷ more))) (said value stages (asked ++ q ∷ more) replies)) (truth_length m asked)
    ∙ ap (λ b. said_by (round_by (Some wrong.0) b) (looks_up (drop (length asked) (asked ++ q ∷ more))) (said value stages (asked ++ q ∷ more) replies)) (at_most_itself (length asked))
    ∙ ap looks_up (drop-append_seam asked (q ∷ more))

-- all is answered, and there is an end
has_value : {A : Type 0} (m : Machine) (value : Machine → Option A) (asked : List Question) → AreDecided m value [] asked → said value [] asked (truth m asked ++ []) ≡ ends (value m)
has_value m value asked decided =
    let replies = truth m asked ++ [] in
    ap (λ rs. cond (nat_le (length rs) (length asked)) (ends (value (told asked replies))) (refuses (length asked))) (nothing_behind (truth m asked))
    ∙ ap (λ n. cond (nat_le n (length asked)) (ends (value (told asked replies))) (refuses (length asked))) (truth_length m asked)
    ∙ ap (λ b. cond b (ends (value (told asked replies))) (refuses (length asked))) (at_most_itself (length asked))
    ∙ ap ends (decided (told asked replies) (told_agrees m asked []))

-- ---- a talk

ended : {A : Type 0} (n : ℕ) (m : Machine) (value : Machine → Option A) (stages : List Stage) (replies : List Reply) (it : Option A) → said value stages [] replies ≡ ends it → talk n m value stages replies ≡ ends it
ended zero m value stages replies it e = e
ended (suc n) m value stages replies it e = ap (λ s. go_on s (λ questions. talk n m value stages (replies ++ truth m questions))) e

-- the replies so far are those to what was asked before a round
abbrev Reaches : {A : Type 0} → Machine → (Machine → Option A) → List Stage → List Stage → List Question → Type 0
Reaches m value all stages asked = (more : List Reply) → said value all [] (truth m asked ++ more) ≡ said value stages asked (truth m asked ++ more)

reaches_next : {A : Type 0} (m : Machine) (value : Machine → Option A) (all : List Stage) (stage : Stage) (stages : List Stage) (asked questions : List Question) → AreDecided m value (stage ∷ stages) asked
    → stage m ≡ Some questions → Reaches m value all (stage ∷ stages) asked → Reaches m value all stages (joined asked questions)
reaches_next m value all stage stages asked questions decided is reaches more =
    let it = grows asked questions in
    let split : truth m (joined asked questions) ++ more ≡ truth m asked ++ (truth m it.0 ++ more) =
    ap (λ qs. truth m qs ++ more) it.1 ∙ ap (λ rs. rs ++ more) (truth_both m asked it.0) ∙ append_assoc (truth m asked) (truth m it.0) more in
    ap (said value all []) split ∙ reaches (truth m it.0 ++ more) ∙ ap (said value (stage ∷ stages) asked) (sym split) ∙ is_over m value stage stages asked questions decided is more

-- a talk that has come to a round ends
abbrev TalksOn : {A : Type 0} → Machine → (Machine → Option A) → List Stage → List Stage → List Question → Type 0
TalksOn m value all stages asked = (n : ℕ) → length stages ≤ n → AreDecided m value stages asked → Reaches m value all stages asked → talk n m value all (truth m asked) ≡ ends (value_on m value stages)

ends_asked : {A : Type 0} (m : Machine) (value : Machine → Option A) (all : List Stage) (stage : Stage) (stages : List Stage) (asked questions : List Question) (n : ℕ) → length (stage ∷ stages) ≤ n
    → AreDecided m value (stage ∷ stages) asked → Reaches m value all (stage ∷ stages) asked → stage m ≡ Some questions → TalksOn m value all stages (joined asked questions)
    → (more : List Question) → joined asked questions ≡ asked ++ more → talk n m value all (truth m asked) ≡ ends (value_on m value stages)
ends_asked m value all stage stages asked questions n le decided reaches is rest [] grown =
    ap (λ qs. talk n m value all (truth m qs)) (sym (nothing_behind asked) ∙ sym grown)
    ∙ rest n (omega (arith, le)) (decided.1 questions is) (reaches_next m value all stage stages asked questions decided is reaches)
ends_asked m value all stage stages asked questions zero le decided reaches is rest (q ∷ more) grown = absurd (omega (arith, le))
ends_asked m value all stage stages asked questions (suc n) le decided reaches is rest (q ∷ more) grown =
    let none = nothing_behind (truth m asked) in
    ap (λ s. go_on s (λ qs. talk n m value all (truth m asked ++ truth m qs)))
    (ap (said value all []) (sym none) ∙ reaches [] ∙ ap (said value (stage ∷ stages) asked) none ∙ is_asked m value stage stages asked questions decided is q more grown)
    ∙ ap (talk n m value all) (sym (truth_both m asked (q ∷ more)) ∙ ap (truth m) (sym grown))
    ∙ rest n (omega (arith, le)) (decided.1 questions is) (reaches_next m value all stage stages asked questions decided is reaches)

ends_by : {A : Type 0} (m : Machine) (value : Machine → Option A) (all : List Stage) (stage : Stage) (stages : List Stage) (asked : List Question) (n : ℕ) → length (stage ∷ stages) ≤ n
    → AreDecided m value (stage ∷ stages) asked → Reaches m value all (stage ∷ stages) asked → ((questions : List Question) → TalksOn m value all stages (joined asked questions))
    → (o : Option (List Question)) → stage m ≡ o → talk n m value all (truth m asked) ≡ ends (option_and_then (λ questions. value_on m value stages) o)
ends_by m value all stage stages asked n le decided reaches rest None is =
    let none = nothing_behind (truth m asked) in
    ended n m value all (truth m asked) None
    (ap (said value all []) (sym none) ∙ reaches [] ∙ by_stage m value stage stages asked [] decided ∙ ap (λ o. option_map_or (then_said value stages asked (truth m asked ++ [])) o (ends None)) is)
ends_by m value all stage stages asked n le decided reaches rest (Some questions) is =
    let it = grows asked questions in ends_asked m value all stage stages asked questions n le decided reaches is (rest questions) it.0 it.1

talks_on : {A : Type 0} (m : Machine) (value : Machine → Option A) (all stages : List Stage) (asked : List Question) → TalksOn m value all stages asked
talks_on m value all [] asked n le decided reaches =
    ended n m value all (truth m asked) (value m) (ap (said value all []) (sym (nothing_behind (truth m asked))) ∙ reaches [] ∙ has_value m value asked decided)
talks_on m value all (stage ∷ stages) asked n le decided reaches =
    ends_by m value all stage stages asked n le decided reaches (λ questions. talks_on m value all stages (joined asked questions)) (stage m) refl

pub talks_end : {A : Type 0} → TalksEnd A
talks_end m value stages decided = talks_on m value stages stages [] (length stages) (omega arith) decided (λ more. refl)
