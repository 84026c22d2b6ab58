use Rattle.std.proofs.Common.{[], ◌∷◌}
use Rattle.scl_values.specs.Tables.{owner_in}
use Rattle.scl_text.proofs.CompilerLaws.{built-kept}
use Rattle.scl_small.specs.Command.{command}
use Rattle.scl_small.specs.TaskingAgain.{TaskingReadsAgain}
use Rattle.scl_small.specs.TaskingReading.{reading}
use Rattle.scl_small.specs.TaskingTable.{rows}
use Rattle.scl_small.proofs.TaskingAgainLaws.{command_kept}
use Rattle.scl_small.proofs.tasking_vx.compiler.TaskingVXCCompilerImpl.generate_compile_commands_owned.Goals as goal

pub returns-clause-read_again : goal.returns-clause-read_again
returns-clause-read_again c = built-kept command (λ words directory pairs view. TaskingReadsAgain words) (λ words directory pairs view. reading (owner_in (rows ∷ [])) words)
    (λ words directory pairs view. command_kept words) _ _ _ _ _ _ c.generate_compile_commands_owned.ensures.command
