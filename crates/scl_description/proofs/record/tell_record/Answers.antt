use Rattle.std.proofs.Common.{◌++◌, List}
use Rattle.std.proofs.lemmas.Result.{on_ok_weaker}
use Rattle.scl_text.specs.Records.{Parsed, parsed_of}
use Rattle.scl_description.specs.Rows.{Entry}
use Rattle.scl_description.specs.Records.{source_entries, output_entries, list_entries, file_entries, switch_entries}
use Rattle.scl_description.proofs.TakerLaws.{then_entries}
use Rattle.scl_description.proofs.record.tell_record.Goals as goal

pub returns : goal.returns
returns g c =
    let p : Parsed = parsed_of c.args.parsed.now in
    let has = g.R.TakesRows.has in
    let start = c.args.rows.now in
    let x1 : List Entry = source_entries p in
    let x2 : List Entry = output_entries p in
    let x3 : List Entry = list_entries p in
    let x4 : List Entry = file_entries p in
    let made = then_entries has start c.tell_source.new.rows c.tell_made.new.rows x1 x2 c.in_ok-tell_source.ensures c.in_ok-tell_made.ensures in
    let listed = then_entries has start c.tell_made.new.rows c.tell_lists.new.rows (x1 ++ x2) x3 made c.in_ok-tell_lists.ensures in
    let filed = then_entries has start c.tell_lists.new.rows c.tell_files.new.rows (x1 ++ x2 ++ x3) x4 listed c.in_ok-tell_files.ensures in
    on_ok_weaker c.tell_switches.result (then_entries has start c.tell_files.new.rows c.tell_switches.new.rows (x1 ++ x2 ++ x3 ++ x4) (switch_entries p) filed) c.tell_switches.ensures
