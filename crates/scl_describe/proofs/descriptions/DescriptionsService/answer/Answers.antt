use Rattle.std.proofs.Common.{◌≡◌, ◌∙◌, Ok, ap}
use Rattle.scl_catalogue.specs.Views.{catalogue_of}
use Rattle.scl_description.specs.Lines.{lines_of}
use Rattle.scl_cl.specs.Drafts.{asked_by}
use Rattle.scl_cl.specs.Requests.{request_in}
use Rattle.scl_describe.specs.Settings.{settings_from, settings_in, request_lines, with_trimmed_bases}
use Rattle.scl_describe.specs.SettingsRead.{settings_by}
use Rattle.scl_describe.proofs.FindingLaws.{describes_bytes}
use Rattle.scl_describe.proofs.descriptions.DescriptionsService.answer.Goals as goal

pub returns-in-Ok : goal.returns-in-Ok
returns-in-Ok c =
    let bytes = c.args.bytes.items in
    let made : request_in (request_lines (lines_of bytes)) ≡ Ok (asked_by c.in-Ok.request) = rw (c.in-Ok.is, c.deref.ensures.value) at c.in_ok-read.ensures.read in
    let taken : settings_by c.read_lines.new.taker ≡ settings_from (settings_by c.new-settings.result) (lines_of bytes) = rw (c.in-Ok.is, c.deref.ensures.value) at c.in_ok-read.ensures.taken in
    let set : settings_by c.trim_bases.new.self ≡ settings_in (lines_of bytes) =
    c.in_ok-trim_bases-in-Ok.ensures ∙ ap with_trimmed_bases (taken ∙ ap (λ s. settings_from s (lines_of bytes)) c.new-settings.ensures) in
    describes_bytes (catalogue_of c.args.self.now.catalogue.now) bytes c.in_ok-request_description-in-Ok.field-0.items (settings_by c.trim_bases.new.self) (asked_by c.in-Ok.request) set made c.in_ok-request_description-in-Ok.ensures
