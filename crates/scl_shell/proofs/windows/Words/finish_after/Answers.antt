use Rattle.std.proofs.Common.{◌≡◌, [], sym}
use Rattle.scl_shell.specs.WindowsReader.{made}
use Rattle.scl_windows_words.specs.Reading.{stepped}
use Rattle.scl_shell.proofs.windows.Words.finish_after.Goals as goal

pub returns : goal.returns
returns c =
    let all : made c.args.self (stepped c.args.step []) ≡ made c.step.new.self [] = sym (c.in_ok-step.ensures []) in
    rw all c.finish.ensures
