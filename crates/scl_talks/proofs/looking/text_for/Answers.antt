use Rattle.std.proofs.Common.{◌≡◌, ◌∙◌, ℕ, Vec, true, ap, refl}
use Rattle.std.proofs.lemmas.Result.{IfOk-weaker}
use Rattle.std.specs.declared.alloc.Global.{Global}
use Rattle.scl_catalogue.specs.Views.{catalogue_of}
use Rattle.scl_cl.specs.Drafts.{asked_by}
use Rattle.scl_describe.specs.DescriptionsGiven.{kept_told, text_given}
use Rattle.scl_describe.specs.SettingsRead.{settings_by}
use Rattle.scl_questions.specs.Views.{replies_of}
use Rattle.scl_reader.specs.CommandLines.{Given, asked_for, given_by}
use Rattle.scl_reader.specs.Reads.{read_of}
use Rattle.scl_reader.specs.Within.{has_at_most}
use Rattle.scl_talks.specs.Next.{looked}
use Rattle.scl_talks.specs.Talks.{text_for}
use Rattle.scl_talks.proofs.TalkLemmas.{is_told}
use Rattle.scl_talks.proofs.looking.text_for.Goals as goal

pub returns-in_ok-described-in-Ok : goal.returns-in_ok-described-in-Ok
returns-in_ok-described-in-Ok c =
    let talk = c.args.talk.now in
    let request = asked_by c.args.request.now in
    let line : Given = given_by c.line-line.result in
    let made = c.in_ok-described-in-Ok.described in
    let read : (has_at_most talk.settings.limits (asked_for c.args.request.now.compiler line) ≡ true) × (c.in-Ok.reading ≡ read_of (asked_for c.args.request.now.compiler line)) =
    rw c.in-Ok.is at c.in_ok-reading.ensures in
    IfOk-weaker c.text_of.result
    (λ (text : Vec ℕ Global). text.items ≡ looked c.deref.result.now (replies_of c.deref-in-Ok.result.now) (text_given made) (kept_told made.kept))
    (λ (text : Vec ℕ Global). text.items ≡ text_for (catalogue_of c.args.catalogue.now) (settings_by talk.settings) (replies_of talk.answers.items) request)
    (λ (text : Vec ℕ Global) told.
    is_told (catalogue_of c.args.catalogue.now) (settings_by talk.settings) (replies_of talk.answers.items) request line c.line-line.ensures c.in-Ok.reading made (text_given made) text.items read
    c.in_ok-described-in-Ok.ensures refl
    (told
    ∙ ap (λ place. looked place (replies_of c.deref-in-Ok.result.now) (text_given made) (kept_told made.kept)) c.deref.ensures.value
    ∙ ap (λ answers. looked request.directory (replies_of answers) (text_given made) (kept_told made.kept)) c.deref-in-Ok.ensures.value))
    c.text_of.ensures
