use Rattle.scl_catalogue_default.specs.Text.{hazards_text}
use Rattle.scl_catalogue_default.proofs.hazard_bytes.Goals as goal

pub returns : goal.returns
unfolding hazards_text
returns c = c.as_bytes.ensures.value
