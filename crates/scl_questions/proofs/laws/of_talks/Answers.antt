use Rattle.scl_questions.proofs.TalkLaws.{talks_end}
use Rattle.scl_questions.proofs.laws.of_talks.Goals as goal

pub returns : goal.returns
returns c = talks_end
