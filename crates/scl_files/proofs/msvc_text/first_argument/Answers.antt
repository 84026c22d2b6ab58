use Rattle.std.proofs.Common.{◌≡◌, length, arith, sym}
use Rattle.std.specs.Str.{chars}
use Rattle.std.proofs.lemmas.Str.{IsUtf8-past_char}
use Rattle.scl_files.proofs.MsvcLemmas.{char_taken, shorter, text_over, nothing_left, msvc_arguments-read}
use Rattle.scl_files.proofs.msvc_text.first_argument.Goals as goal

pub returns-then-branch : goal.returns-then-branch
returns-then-branch c =
    let taken = char_taken _ _ c.in-Some.c _ c.loop-c.reader c.take.new.self c.in_ok-take.field-0 c.loop-c.invariant.utf8 c.in-Some.ensures.steps.0 c.loop-c.invariant.same c.in_ok-take.ensures.takes in
    record { first = rw (msvc_arguments-read, msvc_arguments-read, c.as_str.ensures) (sym (rw c.if-branch.true at taken)) }

pub loop-c-preserved : goal.loop-c-preserved
loop-c-preserved c =
    let taken = char_taken _ _ c.in-Some.c _ c.loop-c.reader c.take.new.self c.in_ok-take.field-0 c.loop-c.invariant.utf8 c.in-Some.ensures.steps.0 c.loop-c.invariant.same c.in_ok-take.ensures.takes in
    let less = shorter _ _ c.in-Some.c c.in-Some.ensures.steps.0 in
    record { utf8 = IsUtf8-past_char _ _ c.in-Some.c c.loop-c.invariant.utf8 c.in-Some.ensures.steps.0; room = omega (arith, c.in_ok-take.ensures.count); same = rw c.if-branch.false at taken }

pub returns-then-reader : goal.returns-then-reader
returns-then-reader c =
    let over = text_over _ _ c.loop-c.reader c.in_default.ensures.steps.0.0 c.loop-c.invariant.same in
    let none : length c.as_str-then-reader.result.now ≡ 0 = rw (c.as_str-then-reader.ensures, c.in_default.ensures.steps.0.1) c.in_default.ensures.steps.0.0 in
    record { first = rw (msvc_arguments-read (chars c.args.text.now), nothing_left c.as_str-then-reader.result.now none, c.in_ok-push_backslashes.ensures) (sym (rw c.if-reader.true at over)) }

pub returns : goal.returns
returns c =
    let over = text_over _ _ c.loop-c.reader c.in_default.ensures.steps.0.0 c.loop-c.invariant.same in
    record { first = rw msvc_arguments-read (sym (rw c.if-reader.false at over)) }
