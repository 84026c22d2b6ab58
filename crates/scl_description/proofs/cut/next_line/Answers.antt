use Rattle.std.proofs.Common.{arith}
use Rattle.std.proofs.lemmas.Grind.{common_steps}
use Rattle.scl_description.proofs.CutLaws.{lines_of-cut, lines_of-only, cut_at-shorter}
use Rattle.scl_description.proofs.cut.next_line.Goals as goal

pub returns-in-Some-clause-lines : goal.returns-in-Some-clause-lines
returns-in-Some-clause-lines c = lines_of-cut c.args.bytes.now c.in-Some.line.now c.in-Some.rest.now c.in-Some.ensures

pub returns-in-Some-clause-shorter : goal.returns-in-Some-clause-shorter
returns-in-Some-clause-shorter c = cut_at-shorter 10 c.args.bytes.now _ c.in-Some.ensures

pub returns-in-None-clause-lines : goal.returns-in-None-clause-lines
returns-in-None-clause-lines c =
    let only = lines_of-only c.args.bytes.now (grind (arith, common_steps)) c.in-None.ensures in
    grind (arith, common_steps)
