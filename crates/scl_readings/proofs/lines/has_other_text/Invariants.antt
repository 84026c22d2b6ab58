use Rattle.std.proofs.Common.{◌≡◌, drop}
use Rattle.scl_readings.specs.Lines.{has_other_text}
use Rattle.scl_readings.proofs.lines.has_other_text.Given as goal

abbrev pub invariant-loop-byte : goal.invariant-loop-byte
invariant-loop-byte l = has_other_text (drop l.byte-index l.line) ≡ has_other_text l.line
