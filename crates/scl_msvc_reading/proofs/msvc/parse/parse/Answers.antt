use Rattle.std.proofs.Common.{rules}
use Rattle.scl_msvc_reading.proofs.msvc.parse.parse.Goals as goal

pub returns : goal.returns
returns g c =
    let said = rw c.requires at c.judge_words.ensures in
    search rules

pub returns-in_err-options : goal.returns-in_err-options
returns-in_err-options g c =
    let said = rw c.requires at c.judge_words.ensures in
    search rules
