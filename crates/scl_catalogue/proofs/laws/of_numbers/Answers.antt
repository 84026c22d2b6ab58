use Rattle.scl_catalogue.proofs.NumberLemmas.{pass_over_none}
use Rattle.scl_catalogue.proofs.laws.of_numbers.Goals as goal

pub returns : goal.returns
returns c = record { numbers_pass_over_none = pass_over_none }
