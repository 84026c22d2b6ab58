use Rattle.std.proofs.Common.{◌∷◌, ◌++◌, List}
use Rattle.std.proofs.lemmas.Result.{on_ok_weaker}
use Rattle.scl_text.specs.Records.{path_of}
use Rattle.scl_description.specs.Rows.{Entry, entry_rows, rows_of}
use Rattle.scl_description.specs.Takers.{Adds}
use Rattle.scl_description.proofs.TakerLaws.{then_rows, then_entries}
use Rattle.scl_hazards.specs.Told.{given as given_told}
use Rattle.scl_reader.specs.QuestionsGiven.{given}
use Rattle.scl_describe.specs.Descriptions.{question_entries, told_entries, version_entry, writes_entry}
use Rattle.scl_describe.specs.DescriptionsGiven.{kept_told, outcome_given}
use Rattle.scl_describe.specs.Keepings.{last_entries}
use Rattle.scl_describe.specs.OptionLines.{options_given}
use Rattle.scl_describe.proofs.described.Description.tell.Goals as goal

pub returns : goal.returns
returns g c =
    let has = g.R.TakesRows.has in
    let made = c.args.self.now in
    let options : Entry = options_given made.options.items in
    let told : List Entry = told_entries (given_told made.told) in
    let writes : Entry = writes_entry (path_of made.writes) in
    let end : List Entry = question_entries (given made.questions) ++ last_entries (kept_told made.kept) in
    let rest : List Entry = options ∷ told ++ (writes ∷ end) in
    let lined : Adds has c.tell_outcome.new.rows c.tell_options.new.rows (entry_rows options) = rw c.deref.ensures.value at c.in_ok-tell_options.ensures in
    on_ok_weaker c.tell_last.result
    (λ last. then_rows has c.args.rows.now c.tell_version.new.rows c.tell_last.new.rows (entry_rows version_entry) (rows_of (outcome_given made ++ rest)) c.in_ok-tell_version.ensures
    (then_entries has c.tell_version.new.rows c.tell_outcome.new.rows c.tell_last.new.rows (outcome_given made) rest c.in_ok-tell_outcome.ensures
    (then_rows has c.tell_outcome.new.rows c.tell_options.new.rows c.tell_last.new.rows (entry_rows options) (rows_of (told ++ (writes ∷ end))) lined
    (then_entries has c.tell_options.new.rows c.tell_told.new.rows c.tell_last.new.rows told (writes ∷ end) c.in_ok-tell_told.ensures
    (then_rows has c.tell_told.new.rows c.tell_writes.new.rows c.tell_last.new.rows (entry_rows writes) (rows_of end) c.in_ok-tell_writes.ensures
    (then_entries has c.tell_writes.new.rows c.tell_questions.new.rows c.tell_last.new.rows (question_entries (given made.questions)) (last_entries (kept_told made.kept)) c.in_ok-tell_questions.ensures last))))))
    c.tell_last.ensures
