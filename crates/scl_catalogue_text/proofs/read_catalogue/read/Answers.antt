use Rattle.scl_catalogue.specs.Views.{catalogue_of}
use Rattle.scl_catalogue_text.proofs.AgainLemmas.{gives_back}
use Rattle.scl_catalogue_text.proofs.WrongLemmas.{is_wrong}
use Rattle.scl_catalogue_text.proofs.read_catalogue.read.Goals as goal

pub returns-clause-gives_back : goal.returns-clause-gives_back
returns-clause-gives_back c = gives_back catalogue_of c.text_read.result c.args.text.now c.text_read.ensures

pub returns-clause-wrong : goal.returns-clause-wrong
returns-clause-wrong c = is_wrong catalogue_of c.text_read.result c.args.text.now c.text_read.ensures
