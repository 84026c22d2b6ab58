use Rattle.std.proofs.Common.{◌≡◌, take}
use Rattle.std.specs.List.{flat_map}
use Rattle.scl_base_dirs.specs.Bases.{quote_byte}
use Rattle.scl_base_dirs.proofs.spelling.quote.Given as goal

abbrev pub invariant-loop-byte : goal.invariant-loop-byte
invariant-loop-byte l = l.text.items ≡ flat_map (quote_byte l.quoting) (take l.byte-index l.dir)
