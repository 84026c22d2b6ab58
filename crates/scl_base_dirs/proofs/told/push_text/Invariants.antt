use Rattle.std.proofs.Common.{◌≡◌, ◌++◌, take}
use Rattle.scl_base_dirs.specs.Told.{told_text}
use Rattle.scl_base_dirs.proofs.told.push_text.Given as goal

abbrev pub invariant-loop-byte : goal.invariant-loop-byte
invariant-loop-byte l = l.told.items ≡ l.initial.told.items ++ told_text (take l.byte-index l.text)
