use Rattle.scl_text.proofs.CompilerLaws.{parsed-kept}
use Rattle.scl_small.specs.Command.{command}
use Rattle.scl_small.specs.TaskingAgain.{TaskingReadsAgain}
use Rattle.scl_small.proofs.TaskingAgainLaws.{command_kept}
use Rattle.scl_small.proofs.tasking_vx.compiler.TaskingVXCCompilerImpl.parse_arguments_owned.Goals as goal

pub returns-clause-outcome : goal.returns-clause-outcome
returns-clause-outcome c = rw (c.in_ok-tree.ensures.rows, c.table.ensures.rows) at c.parse_arguments_owned.ensures

pub returns-clause-read_again : goal.returns-clause-read_again
returns-clause-read_again c = parsed-kept command (TaskingReadsAgain _) _ (command_kept _) _ (returns-clause-outcome c)
