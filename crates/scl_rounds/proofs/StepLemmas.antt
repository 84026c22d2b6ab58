-- What is said in a round, by how it stands.
use Rattle.std.proofs.Common.{◌≡◌, List, ◌∷◌, length, drop, Option, None, Some, sym, ap, ◌∙◌}
use Rattle.std.specs.Option.{option_map_or}
use Rattle.scl_lookup.specs.Questions.{Question, Machine}
use Rattle.scl_questions.specs.Answers.{Reply, told}
use Rattle.scl_questions.specs.Rounds.{Round, joined, round}
use Rattle.scl_questions.specs.Talks.{Stage, looks_up, ends, said, said_by}

pub stands : {A : Type 0} (value : Machine → Option A) (stage : Stage) (stages : List Stage) (before all questions : List Question) (replies : List Reply) (it : Round)
    → stage (told before replies) ≡ Some questions → all ≡ joined before questions → it ≡ round (length before) all replies
    → said_by it (looks_up (drop (length before) all)) (said value stages all replies) ≡ said value (stage ∷ stages) before replies
stands value stage stages before all questions replies it asked every so =
    ap (λ r. said_by r (looks_up (drop (length before) all)) (said value stages all replies)) so
    ∙ ap (λ qs. said_by (round (length before) qs replies) (looks_up (drop (length before) qs)) (said value stages qs replies)) every
    ∙ ap (λ o. option_map_or (λ more. let each = joined before more in said_by (round (length before) each replies) (looks_up (drop (length before) each)) (said value stages each replies)) o (ends None)) (sym asked)
