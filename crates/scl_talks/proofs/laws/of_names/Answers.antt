use Rattle.scl_talks.proofs.NameLaws.{texts_are_of_one_release}
use Rattle.scl_talks.proofs.laws.of_names.Goals as goal

pub returns : goal.returns
returns c = texts_are_of_one_release
