use Rattle.scl_gnu.proofs.OwnTableLaws.{commands_kept}
use Rattle.scl_gnu.proofs.laws.of_own_tables.Goals as goal

pub returns : goal.returns
returns c = record { own_commands_are_read_again = commands_kept }
