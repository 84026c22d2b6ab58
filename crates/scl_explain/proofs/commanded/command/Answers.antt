use Rattle.scl_catalogue.specs.Views.{catalogue_of}
use Rattle.scl_explain.specs.Said.{IsCommanded}
use Rattle.scl_explain.proofs.ReplyLaws.{said_reply}
use Rattle.scl_explain.proofs.commanded.command.Goals as goal

pub returns-in-Ok : goal.returns-in-Ok
returns-in-Ok g c =
    said_reply _ (catalogue_of c.args.by.now.catalogue.now) (g.D.Disk.holds c.args.by.now.disk) c.args.case.now (IsCommanded c.args.form c.args.case.now) c.in-Ok.answered.view c.in-Ok.answered.description
    c.command_reply.result (rw c.in-Ok.is at c.in_ok-answered.ensures.decided) (rw c.in-Ok.is at c.in_ok-answered.ensures.described) c.command_reply.ensures
