use Rattle.std.proofs.Common.{rules, ◌≤◌, ◌^◌, refl, sym, subst, ◌∙◌}
use Rattle.scl_cl.specs.Batches.{LosesLine}
use Rattle.scl_cl.specs.BatchesGiven.{left_of}
use Rattle.scl_cl.proofs.BatchLaws.{batch-ends, lines-end, read-stops, served-first, served-more, take-stops}
use Rattle.scl_cl.proofs.batch.serve_requests.Goals as goal

pub loop-line-init : goal.loop-line-init
loop-line-init g c = rw (c.new-pending.ensures, c.new-request.ensures.items) (record {
  served = served-first (g.S.Service.answers c.args.service.now) (g.R.Read.remaining c.args.reader.now.device) (g.W.Write.contents c.args.writer.now.device);
  none_read_failed = refl;
  none_write_failed = refl;
})

pub returns-in-Ok-None : goal.returns-in-Ok-None
returns-in-Ok-None g c =
    let taken = rw (c.in-Ok-None.is, c.in-Ok-None.field-0-is) at c.take_line.ensures in
    batch-ends (g.S.Service.answers c.args.service.now) _ _ _ _ _ _ _ _ _ _ _ _ _ _ _ c.loop-line.invariant.served taken.0 taken.1 (taken.2 ∙ c.loop-line.invariant.none_read_failed)
    c.loop-line.invariant.none_write_failed c.take_end.ensures

pub returns-in-Err : goal.returns-in-Err
returns-in-Err g c =
    let taken = rw c.in-Err.is at c.take_line.ensures in
    read-stops (g.S.Service.answers c.args.service.now) _ _ (g.R.Read.remaining c.take_line.new.reader.device) _ _ _ (left_of c.take_line.new.pending) _ _ _ _ _ _ _ _ _ c.from.ensures c.loop-line.invariant.served c.loop-line.invariant.none_read_failed
    c.loop-line.invariant.none_write_failed taken

pub returns-in-Err-take_in : goal.returns-in-Err-take_in
returns-in-Err-take_in g c =
    let taken = rw (c.in-Ok-Some.is, c.in-Ok-Some.field-0-is) at c.take_line.ensures in
    let stopped = rw c.in-Err-take_in.is at c.take_in.ensures in
    let loses = subst (λ text. LosesLine (g.R.Read.remaining c.loop-line.reader.device) (g.R.Read.remaining c.take_line.new.reader.device) (left_of c.loop-line.pending) (left_of c.take_line.new.pending) text)
    (sym c.deref.ensures.value) taken.0 in
    take-stops (g.S.Service.answers c.args.service.now) _ _ _ _ _ _ _ _ c.deref.result.now _ c.take_in.new.request.items _ _ _ _ _ _ c.in-Err-take_in.stop c.loop-line.invariant.served loses
    (taken.1 ∙ c.loop-line.invariant.none_read_failed) c.loop-line.invariant.none_write_failed stopped

pub loop-line-preserved : goal.loop-line-preserved
loop-line-preserved g c =
    let taken = rw (c.in-Ok-Some.is, c.in-Ok-Some.field-0-is) at c.take_line.ensures in
    let step = rw (c.in-Ok.is, c.deref.ensures.value) at c.take_in.ensures in
    record {
      served = served-more (g.S.Service.answers c.args.service.now) _ _ _ _ _ _ _ _ c.in-Ok-Some.text.items _ _ step.0 _ c.loop-line.invariant.served taken.0 step.1 step.2;
      none_read_failed = taken.1 ∙ c.loop-line.invariant.none_read_failed;
      none_write_failed = step.3 ∙ c.loop-line.invariant.none_write_failed;
    }

pub returns : goal.returns
returns g c =
    let long : 2 ^ 40 ≤ c.loop-line._line = search rules in
    lines-end (g.S.Service.answers c.args.service.now) _ _ _ _ _ _ _ _ _ _ _ long c.loop-line.invariant.served c.loop-line.invariant.none_read_failed c.loop-line.invariant.none_write_failed
