use Rattle.std.proofs.Common.{◌≡◌, drop}
use Rattle.scl_patterns.specs.Assembled.{value_from}
use Rattle.scl_patterns.proofs.assembled.octal_value.Given as goal

abbrev pub invariant-loop-byte : goal.invariant-loop-byte
invariant-loop-byte l = value_from 8 l.value (drop l.byte-index l.digits) ≡ value_from 8 0 l.digits
