use Rattle.scl_values.proofs.PrintLemmas.{texts_few}
use Rattle.scl_values.proofs.argument.Argument.iter_strings.Goals as goal

pub returns-clause-few : goal.returns-clause-few
returns-clause-few g c = texts_few _ _ _
