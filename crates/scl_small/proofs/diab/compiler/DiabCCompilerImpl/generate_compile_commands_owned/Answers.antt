use Rattle.std.proofs.Common.{[], ◌∷◌}
use Rattle.scl_values.specs.Tables.{owner_in}
use Rattle.scl_text.proofs.CompilerLaws.{built-kept}
use Rattle.scl_small.specs.Command.{command}
use Rattle.scl_small.specs.DiabAgain.{DiabReadsAgain}
use Rattle.scl_small.specs.DiabReading.{expanded_reading}
use Rattle.scl_small.specs.DiabTable.{rows}
use Rattle.scl_small.proofs.DiabAgainLaws.{command_kept}
use Rattle.scl_small.proofs.diab.compiler.DiabCCompilerImpl.generate_compile_commands_owned.Goals as goal

pub returns-clause-read_again : goal.returns-clause-read_again
returns-clause-read_again c = built-kept command (λ words directory pairs view. DiabReadsAgain directory view.files words) (λ words directory pairs view. expanded_reading (owner_in (rows ∷ [])) directory view.files words)
    (λ words directory pairs view. command_kept directory view.files words) _ _ _ _ _ _ c.generate_compile_commands_owned.ensures.command
