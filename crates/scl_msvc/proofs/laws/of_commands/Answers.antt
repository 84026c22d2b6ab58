use Rattle.scl_msvc.proofs.PromiseLaws.{command_kept}
use Rattle.scl_msvc.proofs.laws.of_commands.Goals as goal

pub returns : goal.returns
returns c = record { commands_are_faithful = command_kept }
