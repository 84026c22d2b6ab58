use Rattle.std.proofs.Common.{◌≡◌, ◌∙◌, [], IfOk, ap, subst}
use Rattle.scl_delivered.specs.Views.{delivered_of}
use Rattle.scl_key.specs.Views.{directs_of, parts_of}
use Rattle.scl_questions.specs.Talks.{said}
use Rattle.scl_questions.specs.Views.{replies_of}
use Rattle.scl_rounds.specs.Answers.{outcome_on}
use Rattle.scl_rounds.specs.Keys.{Key}
use Rattle.scl_rounds.specs.Rounds.{rounds}
use Rattle.scl_rounds.specs.Views.{next_of}
use Rattle.scl_talks.specs.Next.{key_at}
use Rattle.scl_talks.proofs.next.next_of_key.Goals as goal

pub returns : goal.returns
returns c =
    let place = c.args.place.now in
    let key = c.args.key.now in
    let same : record { place = place; parts = parts_of c.deref.result.now; direct = directs_of c.deref-2.result.now } ≡ key_at place (delivered_of key) =
    ap (λ parts. record { place = place; parts = parts_of parts; direct = directs_of c.deref-2.result.now }) c.deref.ensures.value
    ∙ ap (λ direct. record { place = place; parts = parts_of key.parts.items; direct = directs_of direct }) c.deref-2.ensures.value in
    subst (λ (k : Key). IfOk c.look_up.result (λ next. next_of next ≡ said (outcome_on k) (rounds k) [] (replies_of c.args.answers.now))) same c.look_up.ensures
