use Rattle.scl_json.proofs.FieldLaws.{no-words}
use Rattle.scl_json.proofs.value.push_fields_behind.Goals as goal

pub returns-in_default : goal.returns-in_default
returns-in_default c = no-words _ _ _ c.loop-name.left.now c.in_default.ensures.cases c.loop-name.invariant
