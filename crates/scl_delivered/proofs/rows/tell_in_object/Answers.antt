use Rattle.std.proofs.Common.{ℕ, List, codes, subst, ◌∙◌}
use Rattle.std.proofs.lemmas.Result.{on_ok_weaker}
use Rattle.scl_description.specs.Rows.{entry_rows, lone, row_entry}
use Rattle.scl_description.specs.Takers.{Adds}
use Rattle.scl_delivered.proofs.rows.tell_in_object.Goals as goal

pub returns : goal.returns
returns g c =
    let told : List ℕ → Type 0 = λ word. Adds g.R.TakesRows.has c.args.rows.now c.tell_word.new.rows (entry_rows (row_entry (codes "directory-in-object") (lone word))) in
    on_ok_weaker c.tell_word.result (subst told (c.as_bytes.ensures.value ∙ c.name.ensures)) c.tell_word.ensures
