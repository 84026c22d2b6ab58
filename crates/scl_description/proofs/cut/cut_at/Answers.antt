use Rattle.scl_description.proofs.CutLaws.{cut_at-place, cut_at-further}
use Rattle.scl_description.proofs.cut.cut_at.Goals as goal

pub returns-then-byte-mark : goal.returns-then-byte-mark
returns-then-byte-mark c = cut_at-place c.args.mark c.args.bytes.now c.loop-at.at c.loop-at-test.true c.if-byte-mark.true c.loop-at.invariant

pub loop-at-preserved : goal.loop-at-preserved
loop-at-preserved c = cut_at-further c.args.mark c.args.bytes.now c.loop-at.at c.loop-at-test.true c.if-byte-mark.false c.loop-at.invariant
