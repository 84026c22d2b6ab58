use Rattle.std.proofs.Common.{◌++◌, List, map, option_copied}
use Rattle.std.proofs.lemmas.Result.{on_ok_weaker}
use Rattle.scl_description.specs.Rows.{Entry}
use Rattle.scl_description.proofs.TakerLaws.{then_entries}
use Rattle.scl_rows.specs.Rows.{told}
use Rattle.scl_report.specs.Nothing.{why_nothing}
use Rattle.scl_report.specs.Objects.{asked_entries, read_entries, sentence_entries}
use Rattle.scl_report.proofs.json.tell_own.Goals as goal

pub returns : goal.returns
returns g c =
    let has = g.R.TakesRows.has in
    let answered = c.args.answered.now in
    let asked : List Entry = asked_entries c.args.case.now in
    let read : List Entry = read_entries answered in
    let said : List Entry = sentence_entries (option_copied c.args.unrunnable) (why_nothing (map told answered.description.options.items)) answered.description.answer in
    on_ok_weaker c.tell_sentence.result
    (λ last. then_entries has c.args.rows.now c.tell_asked.new.rows c.tell_sentence.new.rows asked (read ++ said) c.in_ok-tell_asked.ensures
    (then_entries has c.tell_asked.new.rows c.tell_read.new.rows c.tell_sentence.new.rows read said c.in_ok-tell_read.ensures last))
    c.tell_sentence.ensures
