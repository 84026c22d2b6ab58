use Rattle.std.proofs.Common.{rules, refl}
use Rattle.scl_files.proofs.PathMapLemmas.{shown-push, newest-last, linked-pop}
use Rattle.scl_files.proofs.path_map.map.PathMap.pop.Goals as goal

pub lead_back-requires : goal.lead_back-requires
lead_back-requires g c =
    let entry = c.in_ok-path.field-0 in
    let some = newest-last c.pop.new.self.items entry c.self.inside.tree c.self.inside.newest c.self.inside.newest (rw c.in_ok-path.ensures.items at c.self.invariant) in
    rw some (search rules)

pub invariant_of-self-2 : goal.invariant_of-self-2
invariant_of-self-2 g c =
    let entry = c.in_ok-path.field-0 in
    linked-pop c.pop.new.self.items entry c.self.inside.tree c.self.inside.newest c.lead_back.new.newest (rw c.in_ok-path.ensures.items at c.self.invariant) c.lead_back.ensures

pub returns : goal.returns
returns g c = rw (← c.self.view_is, c.in_ok-path.ensures.items, shown-push) refl
