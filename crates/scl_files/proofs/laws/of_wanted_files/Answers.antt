use Rattle.scl_files.proofs.WantedLaws.{wanted_decides}
use Rattle.scl_files.proofs.laws.of_wanted_files.Goals as goal

pub returns : goal.returns
returns c = record { wanted_files_decide = wanted_decides }
