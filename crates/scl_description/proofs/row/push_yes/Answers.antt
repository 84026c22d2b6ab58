use Rattle.std.proofs.lemmas.Result.{on_ok_weaker}
use Rattle.scl_description.specs.Rows.{yes_entry}
use Rattle.scl_description.proofs.TakerLaws.{entry_added}
use Rattle.scl_description.proofs.row.push_yes.Goals as goal

pub returns : goal.returns
returns c = on_ok_weaker c.tell_yes.result (entry_added c.args.text.now c.tell_yes.new.rows (yes_entry c.args.name.now c.args.holds)) c.tell_yes.ensures
