use Rattle.scl_small.proofs.ReadLaws.{outcome_read}
use Rattle.scl_small.proofs.laws.of_readings.Goals as goal

pub returns : goal.returns
returns g c = record { readings_say = outcome_read }
