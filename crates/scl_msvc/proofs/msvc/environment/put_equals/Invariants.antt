use Rattle.std.proofs.Common.{◌≡◌, ◌++◌, take, drop}
use Rattle.scl_msvc.specs.Environment.{with_equals}
use Rattle.scl_msvc.proofs.msvc.environment.put_equals.Given as goal

abbrev pub invariant-loop-byte : goal.invariant-loop-byte
invariant-loop-byte l = take l.byte-index l.byte-items ++ with_equals (drop l.byte-index l.byte-items) ≡ with_equals l.fn.word
