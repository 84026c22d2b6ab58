use Rattle.scl_rounds.proofs.RoundLaws.{rounds_give_rows}
use Rattle.scl_rounds.proofs.laws.of_rounds.Goals as goal

pub returns : goal.returns
returns c = rounds_give_rows
