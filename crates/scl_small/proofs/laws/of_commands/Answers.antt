use Rattle.scl_small.proofs.DiabAgainLaws as diab
use Rattle.scl_small.proofs.TaskingAgainLaws as tasking
use Rattle.scl_small.proofs.laws.of_commands.Goals as goal

pub returns-clause-diab_commands_are_read_again : goal.returns-clause-diab_commands_are_read_again
returns-clause-diab_commands_are_read_again c = diab.table_commands_again

pub returns-clause-tasking_commands_are_read_again : goal.returns-clause-tasking_commands_are_read_again
returns-clause-tasking_commands_are_read_again c = tasking.table_commands_again
