use Rattle.std.proofs.Common.{rules}
use Rattle.scl_cl.proofs.TextAgainLaws.{text-answers-again}
use Rattle.scl_cl.proofs.program.run.Goals as goal

pub returns-clause-answered : goal.returns-clause-answered
returns-clause-answered g c = search rules

pub returns-clause-read_again : goal.returns-clause-read_again
returns-clause-read_again g c = λ e. text-answers-again _ _ (returns-clause-answered g c e)
