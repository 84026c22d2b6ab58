use Rattle.std.proofs.Common.{rules}
use Rattle.scl_cl.proofs.service.serve.Goals as goal

pub returns-in-Ok-write_whole-clause-answered : goal.returns-in-Ok-write_whole-clause-answered
returns-in-Ok-write_whole-clause-answered g c = search rules
