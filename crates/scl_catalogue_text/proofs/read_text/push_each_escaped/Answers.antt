use Rattle.std.proofs.lemmas.Result.{err_from_is_err_and}
use Rattle.scl_catalogue_text.proofs.EachLemmas.{escapes_step, escapes_stop}
use Rattle.scl_catalogue_text.proofs.read_text.push_each_escaped.Goals as goal

pub loop-part-preserved : goal.loop-part-preserved
loop-part-preserved c =
    escapes_step c.args.parts.now c.loop-part.part-index _ c.loop-part.bytes.items c.push_escaped.new.bytes.items _ c.loop-part-test.true c.in_ok-push_escaped.ensures c.loop-part.invariant

pub returns-in_err-push_escaped : goal.returns-in_err-push_escaped
returns-in_err-push_escaped c =
    let p = err_from_is_err_and c.from_residual.result c.from_residual.ensures.1 in
    rw (p.1, p.2) (escapes_stop c.in_err-push_escaped.field-0.0 c.args.parts.now c.loop-part.part-index _ c.loop-part.bytes.items _ c.loop-part-test.true c.in_err-push_escaped.ensures c.loop-part.invariant)
