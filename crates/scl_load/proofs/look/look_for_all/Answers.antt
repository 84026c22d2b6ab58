use Rattle.scl_reader.specs.QuestionsGiven.{given}
use Rattle.scl_load.proofs.LookLaws.{all-asked}
use Rattle.scl_load.proofs.look.look_for_all.Goals as goal

pub returns-clause-found : goal.returns-clause-found
returns-clause-found g c =
    let files = rw (c.in-Ok.is, c.deref.ensures.value) at c.in_ok-found.ensures.found in
    let directories = rw (c.in-Ok-2.is, c.deref-2.ensures.value) at c.in_ok-found-2.ensures.found in
    let existing = rw (c.in-Ok-3.is, c.deref-3.ensures.value) at c.in_ok-found-3.ensures.found in
    rw c.is_any.ensures
    (all-asked (g.D.Disk.holds c.args.disk.now) (given c.args.questions.now) c.args.view.now c.look_for_each.new.view c.look_for_each-2.new.view c.look_for_each-3.new.view
    c.in-Ok.found c.in-Ok-2.found c.in-Ok-3.found files directories existing)
