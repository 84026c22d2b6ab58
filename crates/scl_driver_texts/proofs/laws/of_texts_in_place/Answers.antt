use Rattle.scl_driver_texts.proofs.OnceLaws.{once-serves}
use Rattle.scl_driver_texts.proofs.laws.of_texts_in_place.Goals as goal

pub returns : goal.returns
returns c = record { texts_held_once_serve = once-serves }
