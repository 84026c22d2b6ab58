use Rattle.std.proofs.Common.{◌≡◌}
use Rattle.scl_cl.specs.BatchesGiven.{left_of}
use Rattle.scl_cl.proofs.BatchLaws.{IsSearched}
use Rattle.scl_cl.proofs.batch.take_line.Given as goal

abbrev pub invariant-loop-turn : goal.invariant-loop-turn
invariant-loop-turn g l = record {
  is_searched : IsSearched (g.R.Read.remaining l.fn.reader.device) (g.R.Read.remaining l.reader.device) (left_of l.fn.pending) (left_of l.pending) l._turn l.searched;
  none_failed : l.reader.failed ≡ l.fn.reader.failed;
}
