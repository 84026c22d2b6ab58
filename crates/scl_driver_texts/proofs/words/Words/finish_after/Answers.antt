use Rattle.std.proofs.Common.{◌≡◌, [], sym}
use Rattle.scl_driver_texts.specs.Readers.{made}
use Rattle.scl_driver_texts.specs.WindowsWords.{pieces}
use Rattle.scl_windows_words.specs.Reading.{stepped}
use Rattle.scl_driver_texts.proofs.words.Words.finish_after.Goals as goal

pub returns : goal.returns
returns c =
    let all : made c.args.self (pieces (stepped c.args.step [])) ≡ made c.step.new.self [] = sym (c.in_ok-step.ensures []) in
    rw all c.finish.ensures
