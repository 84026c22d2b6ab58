use Rattle.std.proofs.Common.{◌≡◌, ◌∙◌, [], None, false, sym}
use Rattle.std.proofs.lemmas.Result.{on_ok_weaker}
use Rattle.scl_describe.specs.SettingsRead.{settings_by}
use Rattle.scl_talks.specs.Replies.{reply_in}
use Rattle.scl_talks.specs.Talks.{names_base, talk_of}
use Rattle.scl_talks.proofs.TalkLemmas.{takes_setting}
use Rattle.scl_talks.proofs.talk.TalkTakesLines.take_line.Goals as goal

pub returns-clause-taken : goal.returns-clause-taken
returns-clause-taken c =
    let none : None ≡ reply_in c.args.line.now = rw c.in_default.is at c.in_ok-answer.ensures in
    let other : names_base c.args.line.now ≡ false = sym c.starts_with.ensures.value ∙ c.if-starts_with.false in
    on_ok_weaker c.take_line.result (λ taken. takes_setting (talk_of c.args.self.now) c.args.line.now (settings_by c.take_line.new.self) none other (taken [])) c.take_line.ensures.taken
