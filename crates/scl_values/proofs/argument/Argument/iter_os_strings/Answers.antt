use Rattle.scl_values.proofs.PrintLemmas.{words_few}
use Rattle.scl_values.proofs.argument.Argument.iter_os_strings.Goals as goal

pub returns-clause-few : goal.returns-clause-few
returns-clause-few g c = words_few _
