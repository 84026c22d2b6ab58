use Rattle.std.proofs.Common.{sym, ap}
use Rattle.std.specs.Prelude.{is_some}
use Rattle.scl_files.specs.Views.{put_file}
use Rattle.scl_load.specs.declared.look.Sought.TheVariants as kinds
use Rattle.scl_load.proofs.ExtendLaws.{extends-file, has-file, keeps-file}
use Rattle.scl_load.proofs.LookLaws.{found-new}
use Rattle.scl_load.proofs.look.look_for_file.Goals as goal

pub returns-in_ok-add_file-in-Ok-Some-clause-found : goal.returns-in_ok-add_file-in-Ok-Some-clause-found
returns-in_ok-add_file-in-Ok-Some-clause-found g c =
    let view = c.args.view.now in
    let path = c.args.path.now in
    let bytes = c.in-Ok-Some.bytes.items in
    let found = rw (c.in-Ok-Some.is, c.in-Ok-Some.field-0-is) at c.in_ok-bytes.ensures.found in
    rw (c.in_ok-add_file-in-Ok-Some.ensures.ok, c.in_ok-copied-in-Ok-Some.ensures)
    (found-new (g.D.Disk.holds c.args.disk.now) kinds.File path view (record view { files = put_file (record { path = path; bytes = bytes }) view.files }) (ap is_some (has-file view path bytes))
    (λ disk h extends. (extends-file disk view path extends bytes (sym (found disk h)), keeps-file view path disk bytes extends (sym (found disk h)))))
