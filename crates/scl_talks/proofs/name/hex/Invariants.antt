use Rattle.std.proofs.Common.{◌≡◌, take}
use Rattle.scl_talks.specs.Names.{hex}
use Rattle.scl_talks.proofs.name.hex.Given as goal

abbrev pub invariant-loop-byte : goal.invariant-loop-byte
invariant-loop-byte l = l.text.items ≡ hex (take l.byte-index l.bytes)
