use Rattle.std.proofs.Common.{◌≡◌, drop}
use Rattle.std.specs.List.{list_all}
use Rattle.scl_shared_key.specs.Usuals.{is_usual_byte}
use Rattle.scl_shared_key.proofs.usual.has_usual_bytes.Given as goal

abbrev pub invariant-loop-byte : goal.invariant-loop-byte
invariant-loop-byte l = list_all is_usual_byte (drop l.byte-index l.text) ≡ list_all is_usual_byte l.text
