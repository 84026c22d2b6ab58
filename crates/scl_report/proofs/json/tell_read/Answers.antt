use Rattle.std.proofs.Common.{◌∷◌, [], codes}
use Rattle.std.proofs.lemmas.Result.{on_ok_weaker}
use Rattle.scl_values.specs.Words.{words_of}
use Rattle.scl_description.specs.Rows.{Entry, entry_rows, rows_of, words_entry}
use Rattle.scl_description.specs.Takers.{Adds}
use Rattle.scl_description.proofs.TakerLaws.{first_entry, then_rows}
use Rattle.scl_report.specs.Objects.{dangers_entry}
use Rattle.scl_report.proofs.json.tell_read.Goals as goal

pub returns : goal.returns
returns g c =
    let has = g.R.TakesRows.has in
    let answered = c.args.answered.now in
    let responses : Entry = words_entry (codes "response-file") (words_of answered.response_files.items) in
    let missing : Entry = words_entry (codes "missing-file") (words_of answered.missing_files.items) in
    let dangers : Entry = dangers_entry answered.description.told.hazards.items in
    let first : Adds has c.args.rows.now c.tell_words.new.rows (entry_rows responses) = rw c.deref.ensures.value at c.in_ok-tell_words.ensures in
    let second : Adds has c.tell_words.new.rows c.tell_words-2.new.rows (entry_rows missing) = rw c.deref-2.ensures.value at c.in_ok-tell_words-2.ensures in
    on_ok_weaker c.tell_dangers.result
    (λ last. then_rows has c.args.rows.now c.tell_words.new.rows c.tell_dangers.new.rows (entry_rows responses) (rows_of (missing ∷ dangers ∷ [])) first
    (then_rows has c.tell_words.new.rows c.tell_words-2.new.rows c.tell_dangers.new.rows (entry_rows missing) (rows_of (dangers ∷ [])) second
    (first_entry has c.tell_words-2.new.rows c.tell_dangers.new.rows dangers (rw c.deref-3.ensures.value at last))))
    c.tell_dangers.ensures
