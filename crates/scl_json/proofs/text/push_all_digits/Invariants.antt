use Rattle.std.proofs.Common.{◌≡◌, ◌++◌, take}
use Rattle.std.specs.List.{flat_map}
use Rattle.scl_json.specs.Texts.{digits_of}
use Rattle.scl_json.proofs.text.push_all_digits.Given as goal

abbrev pub invariant-loop-byte : goal.invariant-loop-byte
invariant-loop-byte l = l.json.items ≡ l.fn.json.items ++ flat_map digits_of (take l.byte-index l.bytes)
