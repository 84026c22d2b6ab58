use Rattle.std.proofs.Common.{◌≡◌, ◌∙◌, ◌∷◌, [], List, OnOk, true, false, cond, codes, ap, subst, sym}
use Rattle.std.proofs.lemmas.Result.{on_ok_weaker}
use Rattle.std.specs.List.{list_any}
use Rattle.scl_delivered.specs.Views.{delivered_of}
use Rattle.scl_description.specs.Rows.{Entry, rows_of}
use Rattle.scl_description.specs.Takers.{Adds}
use Rattle.scl_description.proofs.TakerLaws.{first_entry}
use Rattle.scl_key.specs.Views.{parts_of}
use Rattle.scl_questions.specs.Views.{replies_of}
use Rattle.scl_rounds.specs.Views.{next_of}
use Rattle.scl_talks.specs.Next.{given_entry, is_plan, key_at, key_entries, next_entries, planned_entries}
use Rattle.scl_talks.proofs.next.tell_key.Goals as goal

pub returns : goal.returns
returns g c =
    let replies = replies_of c.args.answers.now in
    let key = delivered_of c.args.key.now in
    let planned : list_any is_plan key.parts ≡ true =
    sym (c.has_plan.ensures ∙ ap (λ parts. list_any is_plan (parts_of parts)) c.deref.ensures.value) ∙ c.if-not-has_plan.false in
    let same : next_entries (next_of c.in_ok-next.next) ≡ planned_entries c.args.place.now replies key =
    ap next_entries c.in_ok-next.ensures ∙ ap (λ b. cond b (key_entries (key_at c.args.place.now key) replies) (given_entry (codes "no-plan") ∷ [])) (sym planned) in
    subst (λ (them : List Entry). OnOk c.tell_next.result (Adds g.R.TakesRows.has c.args.rows.now c.tell_next.new.rows (rows_of them))) same c.tell_next.ensures

pub returns-then-not-has_plan : goal.returns-then-not-has_plan
returns-then-not-has_plan g c =
    let replies = replies_of c.args.answers.now in
    let key = delivered_of c.args.key.now in
    let why : Entry = given_entry (codes "no-plan") in
    let unplanned : list_any is_plan key.parts ≡ false =
    sym (c.has_plan.ensures ∙ ap (λ parts. list_any is_plan (parts_of parts)) c.deref.ensures.value) ∙ c.if-not-has_plan.true in
    let same : why ∷ [] ≡ planned_entries c.args.place.now replies key = ap (λ b. cond b (key_entries (key_at c.args.place.now key) replies) (why ∷ [])) (sym unplanned) in
    subst (λ (them : List Entry). OnOk c.tell_word.result (Adds g.R.TakesRows.has c.args.rows.now c.tell_word.new.rows (rows_of them))) same
    (on_ok_weaker c.tell_word.result (first_entry g.R.TakesRows.has c.args.rows.now c.tell_word.new.rows why) c.tell_word.ensures)
