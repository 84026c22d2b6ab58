use Rattle.scl_reader.proofs.AgainLaws.{answers_again, have-commands}
use Rattle.scl_reader.proofs.laws.of_answers.Goals as goal

pub returns-clause-answers_are_read_again : goal.returns-clause-answers_are_read_again
returns-clause-answers_are_read_again c = answers_again

pub returns-clause-records_have_commands : goal.returns-clause-records_have_commands
returns-clause-records_have_commands c = have-commands
