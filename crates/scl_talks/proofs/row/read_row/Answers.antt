use Rattle.std.proofs.Common.{◌≡◌, ◌∙◌, None, Some, ap}
use Rattle.scl_description.specs.Fields.{field_of}
use Rattle.scl_description.specs.Rows.{row_of}
use Rattle.scl_values.specs.Words.{words_of}
use Rattle.scl_talks.proofs.RowLemmas.{behind_fields, ends, ends_without, goes_on, shorter, stops, with_word}
use Rattle.scl_talks.proofs.row.read_row.Goals as goal

pub returns-in_default-2 : goal.returns-in_default-2
returns-in_default-2 c =
    let read : None ≡ field_of c.in-Some.part.now = rw c.in_default-2.is at c.in_ok-field.ensures in
    stops c.args.text.now c.loop-part.left.now c.in-Some.part.now c.in-Some.rest.now (words_of c.loop-part.fields.items) c.loop-part.invariant c.in-Some.ensures read

pub loop-part-smaller : goal.loop-part-smaller
loop-part-smaller c = shorter c.loop-part.left.now c.in-Some.part.now c.in-Some.rest.now c.in-Some.ensures

pub loop-part-preserved : goal.loop-part-preserved
loop-part-preserved c =
    let read : Some c.in-Some-2.field.items ≡ field_of c.in-Some.part.now = rw c.in-Some-2.is at c.in_ok-field.ensures in
    ap (λ fields. behind_fields (words_of fields) (row_of c.in-Some.rest.now)) c.in_ok-push.ensures.items
    ∙ with_word c.loop-part.fields.items c.in-Some-2.field (λ words. behind_fields words (row_of c.in-Some.rest.now))
    ∙ goes_on c.args.text.now c.loop-part.left.now c.in-Some.part.now c.in-Some.rest.now c.in-Some-2.field.items (words_of c.loop-part.fields.items) c.loop-part.invariant c.in-Some.ensures read

pub returns-in_default-3 : goal.returns-in_default-3
returns-in_default-3 c =
    let read : None ≡ field_of c.loop-part.left.now = rw c.in_default-3.is at c.in_ok-field-2.ensures in
    ends_without c.args.text.now c.loop-part.left.now (words_of c.loop-part.fields.items) c.loop-part.invariant c.in_default.ensures read

pub returns : goal.returns
returns c =
    let read : Some c.in-Some-3.field.items ≡ field_of c.loop-part.left.now = rw c.in-Some-3.is at c.in_ok-field-2.ensures in
    ap (λ fields. Some (words_of fields)) c.in_ok-push-2.ensures.items
    ∙ with_word c.loop-part.fields.items c.in-Some-3.field Some
    ∙ ends c.args.text.now c.loop-part.left.now c.in-Some-3.field.items (words_of c.loop-part.fields.items) c.loop-part.invariant c.in_default.ensures read
