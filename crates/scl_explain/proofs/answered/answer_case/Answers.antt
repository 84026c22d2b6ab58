use Rattle.std.proofs.Common.{◌∙◌, sym}
use Rattle.scl_catalogue.specs.Views.{catalogue_of}
use Rattle.scl_reader.proofs.QuestionLaws.{are-decided}
use Rattle.scl_explain.proofs.LoadedLaws.{is_decided}
use Rattle.scl_explain.specs.Said.{request_of}
use Rattle.scl_explain.proofs.answered.answer_case.Goals as goal

pub returns-clause-decided : goal.returns-clause-decided
returns-clause-decided g c =
    rw c.in_ok-answered.ensures.view (is_decided (catalogue_of c.args.catalogue.now) (g.D.Disk.holds c.args.disk.now) c.args.case.now c.in-Ok.loaded.view (rw (c.in-Ok.is, c.new-logged.ensures) at c.in_ok-loaded.ensures.loaded))

pub returns-clause-answer : goal.returns-clause-answer
returns-clause-answer g c = λ held h m. (returns-clause-decided g c).answer held h m ∙ sym c.in_ok-answered.ensures.described.answer

pub returns-clause-decides : goal.returns-clause-decides
returns-clause-decides g c = λ disk extends none. are-decided (request_of c.args.case.now c.in_ok-answered.answered.view) disk extends none ∙ sym c.in_ok-answered.ensures.described.answer
