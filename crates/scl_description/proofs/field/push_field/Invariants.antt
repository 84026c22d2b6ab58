use Rattle.std.proofs.Common.{◌≡◌, ◌++◌, false, length}
use Rattle.scl_values.specs.Escaped.{escaped}
use Rattle.scl_description.specs.Fields.{starts_plain}
use Rattle.scl_description.proofs.field.push_field.Given as goal

abbrev pub invariant-loop-byte : goal.invariant-loop-byte
invariant-loop-byte l = record {
  ends : starts_plain l.left ≡ false;
  written : l.text.items ++ escaped l.left ≡ l.fn.text.items ++ escaped l.bytes;
}

abbrev pub decreases-loop-byte : goal.decreases-loop-byte
decreases-loop-byte l = length l.left
