use Rattle.std.proofs.Common.{◌++◌, List, ℕ, ap, ◌∙◌}
use Rattle.scl_description.specs.Rows.{rows_of}
use Rattle.scl_description.proofs.TakerLaws.{list_added}
use Rattle.scl_report.specs.Objects.{named_entries}
use Rattle.scl_report.proofs.json.rows_of_entry.Goals as goal

pub returns : goal.returns
returns c =
    let told : List (List (List ℕ)) = rows_of (named_entries c.args.named.entry c.args.named.file.now) in
    list_added c.new-rows.result c.tell_entry.new.rows told c.in_ok-tell_entry.ensures ∙ ap (λ (rows : List (List (List ℕ))). rows ++ told) c.new-rows.ensures
