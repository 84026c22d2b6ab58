use Rattle.scl_catalogue_default.specs.Text.{effects_text}
use Rattle.scl_catalogue_default.proofs.effect_bytes.Goals as goal

pub returns : goal.returns
unfolding effects_text
returns c = c.as_bytes.ensures.value
