use Rattle.std.proofs.Common.{◌++◌, List, ℕ, ap, ◌∙◌}
use Rattle.scl_description.specs.Rows.{entry_rows}
use Rattle.scl_description.proofs.TakerLaws.{list_added}
use Rattle.scl_describe.specs.Descriptions.{version_entry}
use Rattle.scl_report.proofs.document.versioned.Goals as goal

pub returns : goal.returns
returns c =
    list_added c.new-rows.result c.tell_word.new.rows (entry_rows version_entry) c.in_ok-tell_word.ensures
    ∙ ap (λ (rows : List (List (List ℕ))). rows ++ entry_rows version_entry) c.new-rows.ensures
