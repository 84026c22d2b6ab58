use Rattle.std.proofs.Common.{◌++◌, List, ℕ, ap, ◌∙◌}
use Rattle.scl_description.specs.Rows.{entries_text}
use Rattle.scl_description.proofs.TakerLaws.{entries_added}
use Rattle.scl_describe.specs.Descriptions.{too_many_entries}
use Rattle.scl_describe.proofs.described.too_many_words.Goals as goal

pub returns : goal.returns
returns c =
    entries_added c.new-text.result c.tell_too_many.new.rows too_many_entries c.in_ok-tell_too_many.ensures
    ∙ ap (λ (text : List ℕ). text ++ entries_text too_many_entries) c.new-text.ensures.items
