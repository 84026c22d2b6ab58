use Rattle.std.proofs.Common.{◌≡◌, ◌≤◌, ◌+◌, length}
use Rattle.std.specs.Io.KnownBytes.{Consumes}
use Rattle.scl_devices.specs.Counts.{many_more}
use Rattle.scl_cl.proofs.transfer.read_blocks.Given as goal

abbrev pub invariant-loop-turn : goal.invariant-loop-turn
invariant-loop-turn g l = record {
  consumed : Consumes (g.R.Read.remaining l.fn.reader.device) (g.R.Read.remaining l.reader.device) l.bytes.items;
  long : l._turn ≤ length l.bytes.items;
  none_failed : l.reader.failed ≡ l.fn.reader.failed;
  called_at_least : many_more l._turn l.fn.reader.calls ≤ l.reader.calls;
  called_at_most : l.reader.calls ≤ l.fn.reader.calls + l._turn;
}
