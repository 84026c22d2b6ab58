use Rattle.std.proofs.Common.{◌++◌, List, ℕ, ap, ◌∙◌}
use Rattle.scl_description.specs.Rows.{entries_text}
use Rattle.scl_description.proofs.TakerLaws.{entries_added}
use Rattle.scl_describe.specs.DescriptionsGiven.{entries_given}
use Rattle.scl_describe.proofs.described.Description.text.Goals as goal

pub returns : goal.returns
returns c =
    entries_added c.in_ok-text.text c.tell.new.rows (entries_given c.args.self.now) c.in_ok-tell.ensures
    ∙ ap (λ (text : List ℕ). text ++ entries_text (entries_given c.args.self.now)) c.in_ok-text.ensures
