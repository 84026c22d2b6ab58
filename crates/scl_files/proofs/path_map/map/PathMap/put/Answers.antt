use Rattle.std.proofs.Common.{◌≡◌, ◌∷◌, length, Some, None, arith, refl, sym}
use Rattle.std.proofs.lemmas.Option.{slice_get_read}
use Rattle.std.specs.List.{slice_get}
use Rattle.scl_files.specs.PathEntries.{place_at}
use Rattle.scl_files.specs.PathMaps.{put_at}
use Rattle.scl_files.proofs.PathMapLemmas.{place-below, linked-set, put-placed, put-nowhere}
use Rattle.scl_files.proofs.path_map.map.PathMap.put.Goals as goal

pub index_mut-requires : goal.index_mut-requires
index_mut-requires g c =
    let items = c.self.inside.entries.items in
    let at : place_at c.args.path.items items (length items) ≡ Some c.in-Some.at = rw (← c.deref.ensures.value, ← c.deref-2.ensures.value) (sym c.in-Some.ensures) in
    let below = place-below c.args.path.items items (length items) c.in-Some.at (omega arith) at in
    omega (arith, below)

pub invariant_of-self : goal.invariant_of-self
invariant_of-self g c =
    let items = c.self.inside.entries.items in
    let at : place_at c.args.path.items items (length items) ≡ Some c.in-Some.at = rw (← c.deref.ensures.value, ← c.deref-2.ensures.value) (sym c.in-Some.ensures) in
    let below = place-below c.args.path.items items (length items) c.in-Some.at (omega arith) at in
    let entry = c.index_mut.result.now in
    let is : slice_get items c.in-Some.at ≡ Some entry = slice_get_read items (length items) c.in-Some.at entry refl below c.index_mut.ensures.value in
    linked-set items c.in-Some.at entry c.args.value c.self.inside.tree c.self.inside.newest is c.self.invariant

pub returns-in-Some-clause-ok : goal.returns-in-Some-clause-ok
returns-in-Some-clause-ok g c =
    let items = c.self.inside.entries.items in
    let at : place_at c.args.path.items items (length items) ≡ Some c.in-Some.at = rw (← c.deref.ensures.value, ← c.deref-2.ensures.value) (sym c.in-Some.ensures) in
    let below = place-below c.args.path.items items (length items) c.in-Some.at (omega arith) at in
    let entry = c.index_mut.result.now in
    let is : slice_get items c.in-Some.at ≡ Some entry = slice_get_read items (length items) c.in-Some.at entry refl below c.index_mut.ensures.value in
    rw (← c.self.view_is) (put-placed items c.in-Some.at entry c.args.value c.args.path.items at is)

pub returns-in-None-clause-ok : goal.returns-in-None-clause-ok
returns-in-None-clause-ok g c =
    let items = c.self.inside.entries.items in
    let none : place_at c.args.path.items items (length items) ≡ None = rw (← c.deref.ensures.value, ← c.deref-2.ensures.value) (sym c.in-None.ensures) in
    let fresh : put_at c.args.path.items c.args.value c.args.self.now ≡ (c.args.path.items, c.args.value) ∷ c.args.self.now = rw (← c.self.view_is) (put-nowhere c.args.path.items items c.args.value none) in
    rw fresh c.add.ensures.ok
