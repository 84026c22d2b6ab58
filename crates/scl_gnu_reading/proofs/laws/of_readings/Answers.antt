use Rattle.scl_gnu_reading.proofs.ReadLaws.{outcome_read}
use Rattle.scl_gnu_reading.proofs.laws.of_readings.Goals as goal

pub returns : goal.returns
returns c = record { readings_say = outcome_read }
