use Rattle.std.proofs.Common.{rules, ◌≡◌, None, false, ap, subst, sym, ◌∙◌}
use Rattle.scl_description.specs.Lines.{cut_at}
use Rattle.scl_cl.specs.Batches.{Stays}
use Rattle.scl_cl.specs.BatchesGiven.{left_of}
use Rattle.scl_cl.proofs.BatchLaws.{takes-line, read-none, stays-searched}
use Rattle.scl_cl.proofs.batch.take_line.Goals as goal

pub returns-in-Some : goal.returns-in-Some
returns-in-Some g c =
    let cut = rw c.in-Some.is at c.in_ok-line.ensures in
    (takes-line _ _ _ _ _ _ (stays-searched _ _ _ _ _ _ c.loop-turn.invariant.is_searched) cut, c.loop-turn.invariant.none_failed)

pub returns-then-not-branch : goal.returns-then-not-branch
returns-then-not-branch g c =
    let no_line : c.in_ok-line.field-0 ≡ None = search rules in
    let lacks = rw no_line at c.in_ok-line.ensures in
    let none : c.in_ok-read.field-0 ≡ false = search rules in
    let stays = subst (λ p. Stays (g.R.Read.remaining c.args.reader.now.device) (g.R.Read.remaining c.loop-turn.reader.device) (left_of c.args.pending.now) p) (sym lacks.1) (stays-searched _ _ _ _ _ _ c.loop-turn.invariant.is_searched) in
    read-none _ _ _ _ _ _ _ _ _ _ c.in_ok-read.field-0 c.in_ok-take_last.field-0 none stays c.loop-turn.invariant.none_failed c.in_ok-read.ensures (ap (cut_at 10) lacks.1 ∙ lacks.0) c.in_ok-take_last.ensures
