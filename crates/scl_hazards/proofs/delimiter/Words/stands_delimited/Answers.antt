use Rattle.std.proofs.Common.{◌∙◌}
use Rattle.scl_hazards.proofs.delimiter.Words.stands_delimited.Goals as goal

pub returns-in-Some-ends : goal.returns-in-Some-ends
returns-in-Some-ends c =
    let ended = rw c.in-Some-ends.is at c.args.self.now.ended in
    rw c.in-Some.is (c.contains.ensures ∙ ended (c.in-Some.delimiter, c.args.flag))
