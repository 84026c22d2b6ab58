use Rattle.std.proofs.lemmas.Iterator.Consumers.{YieldsList-from_first}
use Rattle.scl_files.specs.Paths.{placed, places_from}
use Rattle.scl_files.proofs.PathLemmas.{last_from_yields_List}
use Rattle.scl_files.proofs.path.last_place.Goals as goal

pub returns : goal.returns
returns c =
    last_from_yields_List c.last.result c.last.ensures.ran
    (YieldsList-from_first (λ place. placed place.before.now place.name.now) (λ s. places_from s.path.now s.at) _ c.new.ensures)
