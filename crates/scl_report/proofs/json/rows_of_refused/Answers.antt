use Rattle.std.proofs.Common.{◌++◌, ◌∷◌, [], List, ℕ, codes, ap, ◌∙◌}
use Rattle.scl_description.specs.Rows.{Entry, entry_rows, lone, row_entry, rows_of}
use Rattle.scl_description.specs.Takers.{Adds}
use Rattle.scl_description.proofs.TakerLaws.{list_added, list_has, then_entry}
use Rattle.scl_report.specs.Objects.{named_entries}
use Rattle.scl_report.proofs.json.rows_of_refused.Goals as goal

pub returns : goal.returns
returns c =
    let named : List Entry = named_entries c.args.named.entry c.args.named.file.now in
    let why : Entry = row_entry (codes "error") (lone c.args.why.now) in
    let last : Adds list_has c.tell_entry.new.rows c.tell_word.new.rows (entry_rows why) = rw c.as_bytes.ensures.value at c.in_ok-tell_word.ensures in
    let told : List (List (List ℕ)) = rows_of (named ++ why ∷ []) in
    let all : Adds list_has c.in_ok-rows.rows c.tell_word.new.rows told = then_entry list_has c.in_ok-rows.rows c.tell_entry.new.rows c.tell_word.new.rows named why c.in_ok-tell_entry.ensures last in
    list_added c.in_ok-rows.rows c.tell_word.new.rows told all ∙ ap (λ (rows : List (List (List ℕ))). rows ++ told) c.in_ok-rows.ensures
