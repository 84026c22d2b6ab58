use Rattle.scl_lookup.proofs.HitLaws.{hits_are_right}
use Rattle.scl_lookup.proofs.laws.of_hits.Goals as goal

pub returns : goal.returns
returns c = hits_are_right
