use Rattle.std.proofs.Common.{◌≡◌, ◌≤◌, ◌-◌, length, take}
use Rattle.std.specs.Io.KnownBytes.{Appends}
use Rattle.scl_devices.proofs.write.write_whole.Given as goal

abbrev pub invariant-loop-written : goal.invariant-loop-written
invariant-loop-written g l = record {
  appended : Appends (g.W.Write.contents l.fn.writer.device) (g.W.Write.contents l.writer.device) (take l.written l.text);
  within : l.written ≤ length l.text;
  none_failed : l.writer.failed ≡ l.fn.writer.failed;
}

abbrev pub decreases-loop-written : goal.decreases-loop-written
decreases-loop-written g l = length l.text - l.written
