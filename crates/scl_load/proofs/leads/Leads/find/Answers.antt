use Rattle.std.proofs.Common.{map, ap}
use Rattle.scl_load.specs.Leads.{lead_of, leads_of}
use Rattle.scl_load.proofs.LeadLaws.{is-found, on-looked}
use Rattle.scl_load.proofs.leads.Leads.find.Goals as goal

pub returns-in-Ok-true : goal.returns-in-Ok-true
returns-in-Ok-true g c =
    let holds = g.D.Disk.holds c.args.disk.now in
    let first = c.args.view.now in
    let before = c.loop-lead.view in
    let after = c.look_for_file.new.view in
    let leads = leads_of c.args.self.now in
    let middle = leads_of c.loop-lead.self in
    let lead = lead_of c.in-Some.lead in
    let rest = map lead_of c.pop_front.new.self.items in
    let is = ap (map lead_of) c.in-Some.ensures.items in
    let looked = rw (c.in-Ok-true.is, c.in-Ok-true.field-0-test, c.deref-in-Some.ensures.value) at c.in_ok-look_for_file.ensures.found in
    (on-looked holds first before after leads middle lead rest c.loop-lead.invariant is looked, is-found holds first before after leads middle lead rest c.loop-lead.invariant is looked)
