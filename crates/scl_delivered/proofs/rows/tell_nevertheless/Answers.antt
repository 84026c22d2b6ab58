use Rattle.std.proofs.Common.{◌∷◌, [], List, ℕ, codes, subst}
use Rattle.std.proofs.lemmas.Result.{on_ok_weaker}
use Rattle.scl_description.specs.Rows.{Entry, entry_rows, lone, row_entry}
use Rattle.scl_description.specs.Takers.{Adds}
use Rattle.scl_description.proofs.TakerLaws.{first_entry, then_entry}
use Rattle.scl_delivered.specs.Rows.{nevertheless}
use Rattle.scl_delivered.proofs.rows.tell_nevertheless.Goals as goal

pub returns : goal.returns
unfolding nevertheless
returns g c =
    let has = g.R.TakesRows.has in
    let start = c.args.rows.now in
    let row : (name value : List ℕ) → Entry = λ name value. row_entry (codes "key") (name ∷ value ∷ []) in
    let beside : Entry = row_entry (codes "key") (lone (codes "bases-if-beside")) in
    let shown : Entry = row (codes "bases-if-shown") c.args.said.now.shown.now in
    let planned : Entry = row (codes "bases-if-planned") c.args.said.now.planned.now in
    let first = first_entry has start c.tell_word.new.rows beside c.in_ok-tell_word.ensures in
    let then_shown = then_entry has start c.tell_word.new.rows c.tell_named.new.rows (beside ∷ []) shown first
    (subst (λ (value : List ℕ). Adds has c.tell_word.new.rows c.tell_named.new.rows (entry_rows (row (codes "bases-if-shown") value))) c.as_bytes.ensures.value c.in_ok-tell_named.ensures) in
    on_ok_weaker c.tell_named-2.result
    (λ last. then_entry has start c.tell_named.new.rows c.tell_named-2.new.rows (beside ∷ shown ∷ []) planned then_shown
    (subst (λ (value : List ℕ). Adds has c.tell_named.new.rows c.tell_named-2.new.rows (entry_rows (row (codes "bases-if-planned") value))) c.as_bytes-2.ensures.value last))
    c.tell_named-2.ensures
