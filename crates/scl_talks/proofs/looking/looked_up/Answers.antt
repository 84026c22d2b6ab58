use Rattle.std.proofs.Common.{◌≡◌, ◌∙◌, List, [], Ok, ap, map, sym}
use Rattle.scl_catalogue.specs.Views.{catalogue_of}
use Rattle.scl_cl.specs.Drafts.{asked_by}
use Rattle.scl_cl.specs.Requests.{request_from}
use Rattle.scl_describe.specs.Settings.{Settings}
use Rattle.scl_describe.specs.SettingsRead.{settings_by}
use Rattle.scl_description.specs.Lines.{lines_of}
use Rattle.scl_questions.specs.Answers.{Reply}
use Rattle.scl_questions.specs.Views.{replies_of}
use Rattle.scl_talks.specs.Talks.{Talk, answered, for_key, left, silent, talk_from, talk_of, text_for}
use Rattle.scl_talks.proofs.looking.looked_up.Goals as goal

pub returns-in-Ok : goal.returns-in-Ok
returns-in-Ok c =
    let catalogue = catalogue_of c.args.catalogue.now in
    let lines = lines_of c.args.bytes.now in
    let request = asked_by c.in-Ok.request in
    let made : request_from 2 [] (map left lines) ≡ Ok request = rw c.in-Ok.is at c.in_ok-request.ensures.read in
    let taken : talk_of c.read_lines.new.taker ≡ talk_from (talk_of c.new-talk.result) lines = rw c.in-Ok.is at c.in_ok-request.ensures.taken in
    let told : talk_of c.read_lines.new.taker ≡ talk_from silent lines = taken ∙ ap (λ (talk : Talk). talk_from talk lines) c.new-talk.ensures in
    let settings : settings_by c.want_key.new.self.settings ≡ for_key (talk_from silent lines).settings = c.want_key.ensures.settings ∙ ap (λ (talk : Talk). for_key talk.settings) told in
    let replies : replies_of c.want_key.new.self.answers.items ≡ (talk_from silent lines).replies = ap (λ answers. replies_of answers.items) c.want_key.ensures.answers ∙ ap (λ (talk : Talk). talk.replies) told in
    let text : text_for catalogue (for_key (talk_from silent lines).settings) (talk_from silent lines).replies request ≡ c.in_ok-text_for-in-Ok.field-0.items =
    sym
    (c.in_ok-text_for-in-Ok.ensures
    ∙ ap (λ (s : Settings). text_for catalogue s (replies_of c.want_key.new.self.answers.items) request) settings
    ∙ ap (λ (them : List Reply). text_for catalogue (for_key (talk_from silent lines).settings) them request) replies) in
    ap (answered catalogue (talk_from silent lines)) made ∙ ap Ok text
