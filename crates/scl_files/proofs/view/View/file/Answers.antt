use Rattle.std.proofs.Common.{◌≡◌, Some, None, refl}
use Rattle.scl_files.specs.PathMaps.{value_at}
use Rattle.scl_files.proofs.ViewLemmas.{bytes_at_lem}
use Rattle.scl_files.proofs.view.View.file.Goals as goal

pub returns-in_err-bytes : goal.returns-in_err-bytes
returns-in_err-bytes c =
    let none : None ≡ value_at c.args.path.now c.self.inside.files = c.in_err-bytes.ensures in
    rw (← c.self.view_is, bytes_at_lem, ← none) (rw c.from_residual.ensures refl)

pub returns : goal.returns
returns c =
    let found : Some c.in_ok-bytes.bytes.now ≡ value_at c.args.path.now c.self.inside.files = c.in_ok-bytes.ensures in
    rw (← c.self.view_is, bytes_at_lem, c.deref.ensures.value, ← found) refl
