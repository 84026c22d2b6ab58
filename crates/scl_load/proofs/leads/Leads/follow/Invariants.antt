use Rattle.scl_load.specs.Leads.{GoesOn, leads_of}
use Rattle.scl_load.proofs.leads.Leads.follow.Given as goal

abbrev pub invariant-loop-found : goal.invariant-loop-found
invariant-loop-found g l = GoesOn (g.D.Disk.holds l.disk) l.initial.view l.view (leads_of l.initial.self) (leads_of l.self)
