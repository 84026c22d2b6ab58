use Rattle.std.proofs.Common.{ap, ◌∙◌, ◌++◌}
use Rattle.scl_values.specs.Escaped.{escaped}
use Rattle.scl_description.proofs.FieldLaws.{written_on, escape_on}
use Rattle.scl_description.proofs.field.push_field.Goals as goal

pub loop-byte-init : goal.loop-byte-init
loop-byte-init c = record {
  ends = c.plain_prefix.ensures.ends;
  written =
      ap (λ text. text ++ escaped c.plain_prefix.result.1.now) c.in_ok-extend_from_slice.ensures.items
      ∙ written_on c.args.text.now.items c.plain_prefix.result.0.now c.plain_prefix.result.1.now c.args.bytes.now c.plain_prefix.ensures.whole c.plain_prefix.ensures.plain;
}

pub loop-byte-preserved : goal.loop-byte-preserved
loop-byte-preserved c = record {
  ends = c.plain_prefix-in-Some.ensures.ends;
  written = rw (c.in_ok-extend_from_slice-2.ensures.items, c.in_ok-push_escape.ensures) (escape_on c.loop-byte.text.items _ c.plain_prefix-in-Some.result.0.now c.plain_prefix-in-Some.result.1.now
      c.loop-byte.left.now c.in-Some.behind.now c.in-Some.byte.now c.loop-byte.invariant.written c.in-Some.ensures.cases.0 c.plain_prefix-in-Some.ensures.whole c.plain_prefix-in-Some.ensures.plain);
}
