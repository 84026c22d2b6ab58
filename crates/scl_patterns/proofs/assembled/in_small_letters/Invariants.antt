use Rattle.std.proofs.Common.{◌≡◌, take, map}
use Rattle.scl_patterns.specs.Assembled.{small}
use Rattle.scl_patterns.proofs.assembled.in_small_letters.Given as goal

abbrev pub invariant-loop-byte : goal.invariant-loop-byte
invariant-loop-byte l = l.letters.items ≡ map small (take l.byte-index l.text)
