use Rattle.scl_json.proofs.FieldLaws.{none-joined}
use Rattle.scl_json.proofs.value.push_fields.Goals as goal

pub returns-in_default : goal.returns-in_default
returns-in_default c = none-joined c.args.json.now.items _ c.args.words.now c.in_default.ensures.cases
