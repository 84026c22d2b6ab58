use Rattle.std.proofs.Common.{◌∷◌, List}
use Rattle.std.proofs.lemmas.Result.{on_ok_weaker}
use Rattle.scl_text.specs.Commands.{pairs_of}
use Rattle.scl_text.specs.Records.{parsed_of}
use Rattle.scl_text.specs.Runs.{runs_of}
use Rattle.scl_description.specs.Records.{record_entries}
use Rattle.scl_description.specs.Rows.{Entry, entry_rows, rows_of}
use Rattle.scl_description.specs.Takers.{Adds}
use Rattle.scl_description.proofs.TakerLaws.{then_rows, then_entries}
use Rattle.scl_describe.specs.Descriptions.{environment_entry, runs_entry}
use Rattle.scl_describe.specs.DescriptionsGiven.{kept_told}
use Rattle.scl_describe.specs.Keepings.{kept_entries}
use Rattle.scl_describe.proofs.described.tell_compilation.Goals as goal

pub returns : goal.returns
returns g c =
    let has = g.R.TakesRows.has in
    let runs : Entry = runs_entry (runs_of c.args.described.now.runs.items) in
    let environment : Entry = environment_entry (pairs_of c.args.compilation.now.command.env_vars.items) in
    let kept : List Entry = kept_entries (kept_told c.args.described.now.kept) in
    let ran : Adds has c.tell_record.new.rows c.tell_runs.new.rows (entry_rows runs) = rw c.deref.ensures.value at c.in_ok-tell_runs.ensures in
    let set : Adds has c.tell_runs.new.rows c.tell_environment.new.rows (entry_rows environment) = rw c.deref-2.ensures.value at c.in_ok-tell_environment.ensures in
    on_ok_weaker c.tell_kept.result
    (λ last. then_entries has c.args.rows.now c.tell_record.new.rows c.tell_kept.new.rows (record_entries (parsed_of c.args.compilation.now.parsed)) (runs ∷ environment ∷ kept) c.in_ok-tell_record.ensures
    (then_rows has c.tell_record.new.rows c.tell_runs.new.rows c.tell_kept.new.rows (entry_rows runs) (rows_of (environment ∷ kept)) ran
    (then_rows has c.tell_runs.new.rows c.tell_environment.new.rows c.tell_kept.new.rows (entry_rows environment) (rows_of kept) set last)))
    c.tell_kept.ensures
