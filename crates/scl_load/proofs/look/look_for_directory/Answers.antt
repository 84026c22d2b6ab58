use Rattle.std.proofs.Common.{sym, ◌∷◌}
use Rattle.scl_load.specs.declared.look.Sought.TheVariants as kinds
use Rattle.scl_load.proofs.ExtendLaws.{extends-directory, has-directory, keeps-directory}
use Rattle.scl_load.proofs.LookLaws.{found-new}
use Rattle.scl_load.proofs.look.look_for_directory.Goals as goal

pub returns-in_ok-add_dir-in-Ok-true-clause-found : goal.returns-in_ok-add_dir-in-Ok-true-clause-found
returns-in_ok-add_dir-in-Ok-true-clause-found g c =
    let view = c.args.view.now in
    let path = c.args.path.now in
    let found = rw (c.in-Ok-true.is, c.in-Ok-true.field-0-test) at c.in_ok-is_dir.ensures.found in
    rw (c.in_ok-add_dir-in-Ok-true.ensures.ok, c.in_ok-copied-in-Ok-true.ensures)
    (found-new (g.D.Disk.holds c.args.disk.now) kinds.Directory path view (record view { directories = path ∷ view.directories }) (has-directory view path)
    (λ disk h extends. (extends-directory disk view path extends (sym (found disk h)), keeps-directory view path)))
