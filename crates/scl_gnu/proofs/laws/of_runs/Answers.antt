use Rattle.scl_gnu.proofs.OutputFileLaws.{output-files-are-left-out}
use Rattle.scl_gnu.proofs.PassLaws.{one-run, each-run}
use Rattle.scl_gnu.proofs.laws.of_runs.Goals as goal

pub returns-clause-output_files_are_left_out : goal.returns-clause-output_files_are_left_out
returns-clause-output_files_are_left_out c = output-files-are-left-out

pub returns-clause-one_architecture_has_one_run : goal.returns-clause-one_architecture_has_one_run
returns-clause-one_architecture_has_one_run c = one-run

pub returns-clause-each_architecture_has_its_run : goal.returns-clause-each_architecture_has_its_run
returns-clause-each_architecture_has_its_run c = each-run
