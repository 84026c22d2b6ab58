use Rattle.scl_base_dirs.proofs.BaseLaws.{bases_are_longest_fits}
use Rattle.scl_base_dirs.proofs.laws.of_bases.Goals as goal

pub returns-clause-longest_fits : goal.returns-clause-longest_fits
returns-clause-longest_fits c = bases_are_longest_fits
