use Rattle.scl_reader.proofs.ReadLaws.{readings-say}
use Rattle.scl_reader.proofs.laws.of_readings.Goals as goal

pub returns : goal.returns
returns c = record { readings_say = readings-say }
