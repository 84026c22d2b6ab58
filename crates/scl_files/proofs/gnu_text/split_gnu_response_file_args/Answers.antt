use Rattle.std.proofs.Common.{sym, ◌∙◌}
use Rattle.std.specs.String.{string_bytes}
use Rattle.scl_files.proofs.GnuLemmas.{step-separates, step-vanishes, step-stands, step-end, gnu_arguments-read, joined-pieces}
use Rattle.scl_files.proofs.gnu_text.split_gnu_response_file_args.Goals as goal

pub loop-c-preserved-in-Continue-1 : goal.loop-c-preserved-in-Continue-1
loop-c-preserved-in-Continue-1 c =
    step-separates _ _ _ _ _ (string_bytes c.loop-c.argument) _ c.in-Some.c _ _
    (record { utf8 = c.loop-c.invariant.0; splits = c.in-Some.ensures.steps.0; mode_is = c.read-next.ensures.mode; mark_is = sym c.in-Separates.is ∙ c.read-next.ensures.mark })
    c.loop-c.invariant.1 (rw (← c.replace-ended.ensures.value) c.in_ok-keep-in-Separates.ensures) (rw c.replace-ended.ensures.after c.new.ensures.bytes)

pub loop-c-preserved-in-Vanishes : goal.loop-c-preserved-in-Vanishes
loop-c-preserved-in-Vanishes c =
    step-vanishes _ _ _ _ (string_bytes c.loop-c.argument) c.in-Some.c _ _
    (record { utf8 = c.loop-c.invariant.0; splits = c.in-Some.ensures.steps.0; mode_is = c.read-next.ensures.mode; mark_is = sym c.in-Vanishes.is ∙ c.read-next.ensures.mark })
    c.loop-c.invariant.1

pub loop-c-preserved : goal.loop-c-preserved
loop-c-preserved c =
    step-stands _ _ _ _ (string_bytes c.loop-c.argument) _ c.in-Some.c _ _
    (record { utf8 = c.loop-c.invariant.0; splits = c.in-Some.ensures.steps.0; mode_is = c.read-next.ensures.mode; mark_is = sym c.in-Stands.is ∙ c.read-next.ensures.mark })
    c.loop-c.invariant.1 c.in_ok-push-in-Stands.ensures.bytes

read_all : goal.returns-clause-arguments
read_all c = c.in_ok-keep.ensures ∙ step-end _ _ _ (string_bytes c.loop-c.argument) c.loop-c.mode c.in-None.ensures.steps.0.0 c.loop-c.invariant.1 ∙ gnu_arguments-read _

pub returns-clause-arguments : goal.returns-clause-arguments
returns-clause-arguments c = read_all c

pub returns-clause-pieces : goal.returns-clause-pieces
returns-clause-pieces c = λ ps p. read_all c ∙ joined-pieces _ ps p
