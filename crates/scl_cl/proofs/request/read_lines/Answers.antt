use Rattle.std.proofs.Common.{ap, arith, map, sym, ◌∙◌}
use Rattle.scl_cl.specs.Sayings.{said}
use Rattle.scl_cl.proofs.RequestLaws.{goes_on}
use Rattle.scl_cl.proofs.request.read_lines.Goals as goal

pub loop-line-preserved : goal.loop-line-preserved
loop-line-preserved g c =
    let says = rw c.in-Some-2.is at c.in_ok-saying.ensures in
    let cut = c.in-Some.ensures.lines in
    record {
      passed =
          goes_on _ _ _ _ _ _ _ _ c.loop-line.invariant.passed (ap (map g.T.TakesLines.left) cut) _ _ (ap said (sym c.in_ok-kept.ensures.left) ∙ sym says)
          (sym c.refuses.ensures ∙ c.if-refuses.false) c.in_ok-take.ensures;
      shown = c.in_ok-kept.ensures.taken _ ∙ ap (g.T.TakesLines.made c.loop-line.taker) (sym cut) ∙ c.loop-line.invariant.shown;
      counted = omega (arith, c.loop-line.invariant.counted, c.in-Some.ensures.shorter);
    }
