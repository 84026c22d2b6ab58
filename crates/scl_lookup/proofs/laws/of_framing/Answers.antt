use Rattle.scl_lookup.proofs.FramingLaws.{framing_decides}
use Rattle.scl_lookup.proofs.laws.of_framing.Goals as goal

pub returns : goal.returns
returns c = framing_decides
