use Rattle.std.proofs.Common.{◌≡◌}
use Rattle.scl_cl.specs.BatchesGiven.{Served, left_of}
use Rattle.scl_cl.proofs.batch.serve_requests.Given as goal

abbrev pub invariant-loop-line : goal.invariant-loop-line
invariant-loop-line g l = record {
  served : Served (g.S.Service.answers l.service) (g.R.Read.remaining l.fn.reader.device) (g.R.Read.remaining l.reader.device) (g.W.Write.contents l.fn.writer.device) (g.W.Write.contents l.writer.device) (left_of l.pending) l.request.items l._line;
  none_read_failed : l.reader.failed ≡ l.fn.reader.failed;
  none_write_failed : l.writer.failed ≡ l.fn.writer.failed;
}
