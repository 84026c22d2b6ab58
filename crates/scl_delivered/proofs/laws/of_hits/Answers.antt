use Rattle.scl_delivered.proofs.DirectLaws.{delivered_direct_hits_are_right}
use Rattle.scl_delivered.proofs.HitLaws.{delivered_hits_are_right}
use Rattle.scl_delivered.proofs.laws.of_hits.Goals as goal

pub returns : goal.returns
returns c = record { hits_are_right = delivered_hits_are_right; direct_hits_are_right = delivered_direct_hits_are_right }
