use Rattle.std.proofs.Common.{length}
use Rattle.scl_load.specs.Leads.{GoesOn, leads_of}
use Rattle.scl_load.proofs.leads.Leads.find.Given as goal

abbrev pub invariant-loop-lead : goal.invariant-loop-lead
invariant-loop-lead g l = GoesOn (g.D.Disk.holds l.disk) l.initial.view l.view (leads_of l.initial.self) (leads_of l.self)

abbrev pub decreases-loop-lead : goal.decreases-loop-lead
decreases-loop-lead g l = length l.self.ahead.items
