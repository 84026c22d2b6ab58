use Rattle.std.proofs.Common.{◌≡◌, false, length}
use Rattle.scl_description.specs.Fields.{field_of, starts_plain}
use Rattle.scl_description.proofs.FieldLaws.{onto}
use Rattle.scl_description.proofs.field.read_field.Given as goal

abbrev pub invariant-loop-left : goal.invariant-loop-left
invariant-loop-left l = record {
  ends : starts_plain l.left ≡ false;
  taken : onto l.bytes.items (field_of l.left) ≡ field_of l.text;
}

abbrev pub decreases-loop-left : goal.decreases-loop-left
decreases-loop-left l = length l.left
