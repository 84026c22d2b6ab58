use Rattle.std.proofs.Common.{◌≡◌, true}
use Rattle.scl_catalogue.specs.Views.{catalogue_of}
use Rattle.scl_reader.specs.CommandLines.{Given, asked_for, given_by}
use Rattle.scl_reader.specs.Reads.{read_of}
use Rattle.scl_reader.specs.Within.{has_at_most}
use Rattle.scl_cl.specs.Drafts.{asked_by}
use Rattle.scl_describe.specs.SettingsRead.{settings_by}
use Rattle.scl_describe.proofs.FindingLaws.{is_described}
use Rattle.scl_describe.proofs.descriptions.request_description.Goals as goal

pub returns-in_ok-text-in-Ok : goal.returns-in_ok-text-in-Ok
returns-in_ok-text-in-Ok c =
    let line : Given = given_by c.line-line.result in
    let read : (has_at_most c.args.settings.now.limits (asked_for c.args.request.now.compiler line) ≡ true) × (c.in-Ok.reading ≡ read_of (asked_for c.args.request.now.compiler line)) =
    rw c.in-Ok.is at c.in_ok-reading.ensures in
    is_described (catalogue_of c.args.catalogue.now) (settings_by c.args.settings.now) (asked_by c.args.request.now) line c.line-line.ensures c.in-Ok.reading c.in_ok-described-in-Ok.described
    c.in_ok-text-in-Ok.text.items read c.in_ok-described-in-Ok.ensures c.in_ok-text-in-Ok.ensures
