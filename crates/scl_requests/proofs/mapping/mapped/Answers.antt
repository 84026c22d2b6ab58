use Rattle.std.proofs.Common.{sym, ◌∙◌}
use Rattle.scl_requests.proofs.MappingLaws.{goes_on}
use Rattle.scl_requests.proofs.mapping.mapped.Goals as goal

pub loop-line-preserved : goal.loop-line-preserved
loop-line-preserved c =
    let says = rw c.in-Some-2.is at c.in_ok-saying.ensures in
    goes_on c.args.bytes.now c.loop-line.left.now c.in-Some.rest.now c.in-Some.line.now _ _ _ _ c.loop-line.invariant c.in-Some.ensures.lines c.in-Some.ensures.shorter
    (sym says) (sym c.refuses.ensures ∙ c.if-refuses.false) c.in_ok-take.ensures
