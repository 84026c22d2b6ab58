use Rattle.scl_small.proofs.DiabAgainLaws as diab
use Rattle.scl_small.proofs.TaskingAgainLaws as tasking
use Rattle.scl_small.proofs.laws.of_records.Goals as goal

pub returns-clause-diab_has_objects : goal.returns-clause-diab_has_objects
returns-clause-diab_has_objects c = diab.has_object

pub returns-clause-tasking_has_objects : goal.returns-clause-tasking_has_objects
returns-clause-tasking_has_objects c = tasking.has_object

pub returns-clause-diab_has_no_empty : goal.returns-clause-diab_has_no_empty
returns-clause-diab_has_no_empty c = diab.has_no_empty

pub returns-clause-tasking_has_no_empty : goal.returns-clause-tasking_has_no_empty
returns-clause-tasking_has_no_empty c = tasking.has_no_empty
