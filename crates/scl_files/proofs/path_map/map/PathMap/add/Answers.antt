use Rattle.std.proofs.Common.{◌≡◌, ◌+◌, ℕ, cond, length, Some, arith, refl, ◌∙◌}
use Rattle.std.proofs.lemmas.Grind.{common_steps}
use Rattle.std.specs.BTreeMap.{get}
use Rattle.std.specs.Ordering.{nat_cmp, is_eq}
use Rattle.scl_files.specs.PathEntries.{IsLinked, newest_up_to}
use Rattle.scl_files.specs.PathTrees.{node_at}
use Rattle.scl_files.proofs.PathMapLemmas.{shown-push, linked-push, linked_grown, popped}
use Rattle.scl_files.proofs.path_map.map.PathMap.add.Goals as goal

pub returns-in-Ok-clause-ok : goal.returns-in-Ok-clause-ok
returns-in-Ok-clause-ok g c = rw (c.in_ok-push.ensures.items, shown-push, ← c.self.view_is) refl

pub invariant_of-self-in-Ok : goal.invariant_of-self-in-Ok
invariant_of-self-in-Ok g c =
    let items = c.self.inside.entries.items in
    let linked : IsLinked items c.reach.new.self c.self.inside.newest
    = linked_grown items c.self.inside.tree c.reach.new.self c.self.inside.newest c.self.inside.newest c.self.invariant c.reach.ensures.tree c.reach.ensures.keeps refl in
    let reached : node_at c.args.path.items c.reach.new.self ≡ Some c.in_ok-node.node = rw (← c.deref.ensures.value) c.in_ok-node.ensures.node in
    let leads : c.copied-older.result ≡ newest_up_to c.in_ok-node.node items (length items) = c.copied-older.ensures ∙ c.get.ensures.value ∙ c.self.invariant.first c.in_ok-node.node in
    let at : c.len-at.result ≡ length items = grind (arith, common_steps) in
    let put : (q : ℕ) → get nat_cmp c.insert.new.self q ≡ cond (is_eq (nat_cmp c.in_ok-node.node q)) (Some (length items)) (get nat_cmp c.self.inside.newest q)
    = λ q. c.in-Ok.ensures.updates.0 q ∙ rw at refl in
    rw c.in_ok-push.ensures.items
    (linked-push items (record { path = c.args.path; value = c.args.value; node = c.in_ok-node.node; older = c.copied-older.result }) c.reach.new.self c.self.inside.newest c.insert.new.self linked reached leads put)

pub invariant_of-self : goal.invariant_of-self
invariant_of-self g c =
    linked_grown c.self.inside.entries.items c.self.inside.tree c.reach.new.self c.self.inside.newest c.self.inside.newest c.self.invariant c.reach.ensures.tree c.reach.ensures.keeps refl

pub invariant_of-self-in_err-push : goal.invariant_of-self-in_err-push
invariant_of-self-in_err-push g c =
    rw c.in_err-push.ensures.items
    (linked_grown c.self.inside.entries.items c.self.inside.tree c.reach.new.self c.self.inside.newest c.self.inside.newest c.self.invariant c.reach.ensures.tree c.reach.ensures.keeps refl)

pub invariant_of-self-in-Err : goal.invariant_of-self-in-Err
invariant_of-self-in-Err g c =
    let more : c.push.new.self.len ≡ length c.self.inside.entries.items + 1 = grind (arith, common_steps) in
    let same : c.pop.new.self.items ≡ c.self.inside.entries.items
    = popped c.self.inside.entries.items c.push.new.self.items c.pop.new.self.items (record { path = c.args.path; value = c.args.value; node = c.in_ok-node.node; older = c.copied-older.result }) c.push.new.self.len c.in_ok-push.ensures.items more c.pop.ensures.rest in
    rw same
    (linked_grown c.self.inside.entries.items c.self.inside.tree c.reach.new.self c.self.inside.newest c.insert.new.self c.self.invariant c.reach.ensures.tree c.reach.ensures.keeps c.in-Err.ensures.err)
