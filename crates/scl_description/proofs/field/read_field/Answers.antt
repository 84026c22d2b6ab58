use Rattle.std.proofs.Common.{sym, ap, ◌∙◌, ◌++◌}
use Rattle.scl_description.specs.Fields.{field_of}
use Rattle.scl_description.proofs.FieldLaws.{onto, field-run, one_escape_on}
use Rattle.scl_description.proofs.field.read_field.Goals as goal

pub loop-left-init : goal.loop-left-init
loop-left-init c = record {
  ends = c.plain_prefix.ensures.ends;
  taken =
      ap (λ bytes. onto bytes (field_of c.plain_prefix.result.1.now)) (c.in_ok-extend_from_slice.ensures.items ∙ ap (λ bytes. bytes ++ c.plain_prefix.result.0.now) c.in_ok-bytes.ensures.items)
      ∙ sym (field-run c.plain_prefix.result.0.now c.plain_prefix.result.1.now c.plain_prefix.ensures.plain) ∙ ap field_of (sym c.plain_prefix.ensures.whole);
}

pub loop-left-preserved : goal.loop-left-preserved
loop-left-preserved c = record {
  ends = c.plain_prefix-in-loop-left.ensures.ends;
  taken = rw (c.in_ok-extend_from_slice-2.ensures.items, c.in_ok-push.ensures.items) (one_escape_on c.loop-left.bytes.items c.loop-left.left.now c.in-Some.behind.now
      c.plain_prefix-in-loop-left.result.0.now c.plain_prefix-in-loop-left.result.1.now c.in-Some.byte _
      c.loop-left.invariant.taken c.in-Some.ensures.byte c.plain_prefix-in-loop-left.ensures.whole c.plain_prefix-in-loop-left.ensures.plain);
}
