use Rattle.std.proofs.lemmas.Result.{on_ok_weaker}
use Rattle.scl_description.specs.Rows.{lone, row_entry}
use Rattle.scl_description.proofs.TakerLaws.{entry_added}
use Rattle.scl_description.proofs.row.push_word.Goals as goal

pub returns : goal.returns
returns c = on_ok_weaker c.tell_word.result (entry_added c.args.text.now c.tell_word.new.rows (row_entry c.args.name.now (lone c.args.word.now))) c.tell_word.ensures
