use Rattle.scl_small.proofs.DiabAgainLaws as diab
use Rattle.scl_small.proofs.TaskingAgainLaws as tasking
use Rattle.scl_small.proofs.laws.of_own_tables.Goals as goal

pub returns-clause-own_diab_commands_are_read_again : goal.returns-clause-own_diab_commands_are_read_again
returns-clause-own_diab_commands_are_read_again c = diab.commands_again

pub returns-clause-own_tasking_commands_are_read_again : goal.returns-clause-own_tasking_commands_are_read_again
returns-clause-own_tasking_commands_are_read_again c = tasking.commands_again
