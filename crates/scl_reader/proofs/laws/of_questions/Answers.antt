use Rattle.scl_reader.proofs.QuestionLaws.{are-decided, headers-decided, readings-decided, wholes-decided}
use Rattle.scl_reader.proofs.laws.of_questions.Goals as goal

pub returns : goal.returns
returns c = record {
  answers_are_decided = are-decided;
  readings_are_decided = readings-decided;
  whole_readings_are_decided = wholes-decided;
  headers_are_decided = headers-decided;
}
