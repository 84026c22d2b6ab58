use Rattle.std.proofs.Common.{◌++◌, List, ℕ, ap, ◌∙◌}
use Rattle.scl_description.specs.Rows.{Entry}
use Rattle.scl_description.specs.Takers.{Adds}
use Rattle.scl_description.proofs.TakerLaws.{list_added, list_has, then_entries}
use Rattle.scl_reader.specs.AnswersGiven.{answer_of}
use Rattle.scl_describe.specs.Descriptions.{answer_entries}
use Rattle.scl_describe.specs.DescriptionsGiven.{entries_given, rows_given}
use Rattle.scl_describe.proofs.described.Description.rows.Goals as goal

pub returns : goal.returns
returns c =
    let made = c.args.self.now in
    let answer : List Entry = answer_entries (answer_of made.answer) in
    let all : Adds list_has c.new-list.result c.tell.new.rows (rows_given made) =
    then_entries list_has c.new-list.result c.tell_answer.new.rows c.tell.new.rows answer (entries_given made) c.in_ok-tell_answer.ensures c.in_ok-tell.ensures in
    c.into_rows.ensures ∙ list_added c.new-list.result c.tell.new.rows (rows_given made) all ∙ ap (λ (rows : List (List (List ℕ))). rows ++ rows_given made) c.new-list.ensures
