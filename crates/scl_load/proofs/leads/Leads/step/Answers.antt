use Rattle.scl_load.specs.Leads.{lead_of, leads_of}
use Rattle.scl_load.proofs.LeadLaws.{on-more}
use Rattle.scl_load.proofs.leads.Leads.step.Goals as goal

pub returns-in-Some : goal.returns-in-Some
returns-in-Some g c =
    let found = rw (c.in-Ok-Some.is, c.in-Ok-Some.field-0-is) at c.in_ok-lead.ensures in
    on-more (g.D.Disk.holds c.args.disk.now) c.args.view.now c.find.new.view (leads_of c.args.self.now) (leads_of c.find.new.self) (leads_of c.push_inside.new.self) (lead_of c.in-Ok-Some.lead)
    c.in-Some.depth found.0 found.1 c.in-Some.ensures (rw (c.file.ensures, c.deref.ensures.value) at c.in_ok-push_inside-in-Some.ensures)
