use Rattle.scl_msvc.proofs.RecordLaws.{have-objects, has-no-empty}
use Rattle.scl_msvc.proofs.laws.of_records.Goals as goal

pub returns-clause-has_objects : goal.returns-clause-has_objects
returns-clause-has_objects c = have-objects

pub returns-clause-has_no_empty : goal.returns-clause-has_no_empty
returns-clause-has_no_empty c = has-no-empty
