use Rattle.std.proofs.Common.{◌≡◌, take}
use Rattle.std.specs.String.{string_bytes}
use Rattle.scl_files.specs.Decoding.{windows_text}
use Rattle.scl_files.proofs.decode.windows_text.Given as goal

abbrev pub invariant-loop-byte : goal.invariant-loop-byte
invariant-loop-byte l = string_bytes l.text ≡ windows_text (take l.byte-index l.bytes)
