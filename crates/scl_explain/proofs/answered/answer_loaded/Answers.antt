use Rattle.scl_catalogue.specs.Views.{catalogue_of}
use Rattle.scl_describe.proofs.FindingLaws.{is_of}
use Rattle.scl_describe.specs.SettingsRead.{settings_by}
use Rattle.scl_reader.specs.CommandLines.{given_by}
use Rattle.scl_explain.specs.Said.{request_of}
use Rattle.scl_explain.proofs.answered.answer_loaded.Goals as goal

pub returns-clause-described : goal.returns-clause-described
returns-clause-described c =
    is_of (catalogue_of c.args.catalogue.now) (settings_by c.args.case.now.settings) (request_of c.args.case.now c.args.loaded.view) c.args.loaded.reading (given_by c.line_in-line.result)
    c.in_ok-description.description c.requires c.line_in-line.ensures c.in_ok-description.ensures
