use Rattle.scl_describe.proofs.DescriptionLaws.{descriptions-back}
use Rattle.scl_describe.proofs.laws.of_descriptions.Goals as goal

pub returns : goal.returns
returns c = record { descriptions_read_back = descriptions-back }
