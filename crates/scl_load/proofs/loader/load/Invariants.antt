use Rattle.scl_load.specs.Leads.{leads_of}
use Rattle.scl_load.specs.Loads.{load_of}
use Rattle.scl_load.proofs.LoadLaws.{IsUnderWay}
use Rattle.scl_load.proofs.loader.load.Given as goal

abbrev pub invariant-loop-round : goal.invariant-loop-round
invariant-loop-round g l = IsUnderWay (g.D.Disk.holds l.disk) (load_of l.line l.most l.rounds) l.round l.view (leads_of l.leads)
