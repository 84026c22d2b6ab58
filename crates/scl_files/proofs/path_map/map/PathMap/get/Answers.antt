use Rattle.std.proofs.Common.{◌≡◌, length, Some, None, arith, refl, sym}
use Rattle.std.proofs.lemmas.Option.{slice_get_read}
use Rattle.std.specs.List.{slice_get}
use Rattle.scl_files.specs.PathEntries.{place_at}
use Rattle.scl_files.proofs.PathMapLemmas.{place-below, value-placed, value-nowhere}
use Rattle.scl_files.proofs.path_map.map.PathMap.get.Goals as goal

pub returns-in_err-at : goal.returns-in_err-at
returns-in_err-at g c =
    let items = c.self.inside.entries.items in
    let none : place_at c.args.path.now items (length items) ≡ None = rw (← c.deref.ensures.value) (sym c.in_err-at.ensures) in
    rw (c.from_residual.ensures, ← c.self.view_is) (sym (value-nowhere c.args.path.now items (length items) none))

pub index-requires : goal.index-requires
index-requires g c =
    let items = c.self.inside.entries.items in
    let at : place_at c.args.path.now items (length items) ≡ Some c.in_ok-at.at = rw (← c.deref.ensures.value) (sym c.in_ok-at.ensures) in
    let below = place-below c.args.path.now items (length items) c.in_ok-at.at (omega arith) at in
    omega (arith, below)

pub returns : goal.returns
returns g c =
    let items = c.self.inside.entries.items in
    let at : place_at c.args.path.now items (length items) ≡ Some c.in_ok-at.at = rw (← c.deref.ensures.value) (sym c.in_ok-at.ensures) in
    let below = place-below c.args.path.now items (length items) c.in_ok-at.at (omega arith) at in
    let is : slice_get items c.in_ok-at.at ≡ Some c.index.result.now = slice_get_read items (length items) c.in_ok-at.at c.index.result.now refl below c.index.ensures in
    rw (← c.self.view_is) (sym (value-placed c.args.path.now items (length items) c.in_ok-at.at c.index.result.now at is))
