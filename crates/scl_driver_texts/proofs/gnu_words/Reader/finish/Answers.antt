use Rattle.std.proofs.Common.{◌≡◌, [], sym}
use Rattle.scl_driver_texts.specs.Readers.{made, left}
use Rattle.scl_driver_texts.proofs.gnu_words.Reader.finish.Goals as goal

pub returns-then-self : goal.returns-then-self
returns-then-self c =
    let stood : left c.args.self [] ≡ made c.stand.new.self [] = rw c.if-self.true (sym (rw c.at_end.ensures at (c.in_ok-stand.ensures []))) in
    rw stood c.finish.ensures
