use Rattle.memchr.proofs.lemmas.ValueLemmas.{FindsNeedle-value}
use Rattle.scl_readings.proofs.cut.first_place.Goals as goal

pub returns-clause-place : goal.returns-clause-place
returns-clause-place c = FindsNeedle-value c.args.text.now c.args.word.now c.find.result c.find.ensures
