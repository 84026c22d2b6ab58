use Rattle.scl_text.proofs.EqualityLaws.{records_same}
use Rattle.scl_text.proofs.laws.of_equality.Goals as goal

pub returns-clause-records_are_told_apart : goal.returns-clause-records_are_told_apart
returns-clause-records_are_told_apart c = records_same
