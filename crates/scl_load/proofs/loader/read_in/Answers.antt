use Rattle.scl_reader.specs.CommandLines.{given_by}
use Rattle.scl_reader.specs.QuestionsGiven.{given}
use Rattle.scl_load.specs.Loads.{asked_on}
use Rattle.scl_load.proofs.LoadLaws.{asks-so}
use Rattle.scl_load.proofs.loader.read_in.Goals as goal

pub returns-in-Ok-questions : goal.returns-in-Ok-questions
returns-in-Ok-questions c =
    asks-so c.args.line.now.compiler (given_by c.in_view-given.result) (asked_on c.args.line.now c.args.view.now) c.args.most c.in-Ok.reading (given c.in-Ok-questions.questions) c.in_view-given.ensures
    (rw c.in-Ok.is at c.in_ok-reading.ensures) c.in-Ok-questions.ensures
