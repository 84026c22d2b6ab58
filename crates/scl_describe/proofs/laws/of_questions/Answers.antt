use Rattle.scl_describe.proofs.DecidedLaws.{telling-decided, rows-decided}
use Rattle.scl_describe.proofs.laws.of_questions.Goals as goal

pub returns : goal.returns
returns c = record { rows_are_decided = rows-decided; telling_is_decided = telling-decided }
