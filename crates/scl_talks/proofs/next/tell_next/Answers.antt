use Rattle.std.proofs.Common.{◌≡◌, ◌∙◌, List, OnOk, ap, subst, sym}
use Rattle.scl_description.specs.Rows.{Entry, rows_of}
use Rattle.scl_description.specs.Takers.{Adds}
use Rattle.scl_lookup.specs.Keys.{Row}
use Rattle.scl_questions.specs.Views.{rows_of as rows_in}
use Rattle.scl_rounds.specs.Answers.{Outcome}
use Rattle.scl_rounds.specs.Views.{next_of}
use Rattle.scl_talks.specs.Next.{found_entries, next_entries}
use Rattle.scl_talks.proofs.next.tell_next.Goals as goal

pub returns-in-Found : goal.returns-in-Found
returns-in-Found g c =
    let outcome : List Row → Outcome = λ rows. record { rows = rows; is_listed = c.in-Found.is_listed } in
    let same : found_entries (outcome (rows_in c.deref-in-Found.result.now)) ≡ next_entries (next_of c.args.next.now) =
    ap (λ rows. found_entries (outcome (rows_in rows))) c.deref-in-Found.ensures.value ∙ ap (λ next. next_entries (next_of next)) (sym c.in-Found.is) in
    subst (λ (them : List Entry). OnOk c.tell_found.result (Adds g.R.TakesRows.has c.args.rows.now c.tell_found.new.rows (rows_of them))) same c.tell_found.ensures
