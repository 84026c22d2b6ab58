use Rattle.scl_cl.proofs.WrittenLaws.{answer-lines}
use Rattle.scl_cl.proofs.laws.of_answers.Goals as goal

pub returns : goal.returns
returns c = record { answer_has_lines = answer-lines }
