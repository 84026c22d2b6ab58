use Rattle.scl_small.proofs.DiabAgainLaws as diab
use Rattle.scl_small.proofs.TaskingAgainLaws as tasking
use Rattle.scl_small.proofs.laws.of_tables.Goals as goal

pub returns-clause-diab_table_passes_both_checks : goal.returns-clause-diab_table_passes_both_checks
returns-clause-diab_table_passes_both_checks c = diab.passes

pub returns-clause-tasking_table_passes_both_checks : goal.returns-clause-tasking_table_passes_both_checks
returns-clause-tasking_table_passes_both_checks c = tasking.passes
