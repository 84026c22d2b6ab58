use Rattle.std.proofs.Common.{◌≡◌, ◌++◌, drop}
use Rattle.scl_readings.specs.Quoted.{unquoted, unquoted_from}
use Rattle.scl_readings.proofs.quoted.unquoted.Given as goal

abbrev pub invariant-loop-byte : goal.invariant-loop-byte
invariant-loop-byte l = l.name.items ++ unquoted_from l.at (drop l.byte-index l.quoted) ≡ unquoted l.quoted
