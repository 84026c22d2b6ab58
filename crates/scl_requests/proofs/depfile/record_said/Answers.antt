use Rattle.std.proofs.Common.{◌∙◌, ap, Ok}
use Rattle.scl_requests.proofs.DepfileLaws.{by_made}
use Rattle.scl_requests.proofs.depfile.record_said.Goals as goal

pub returns-in-Ok-Some : goal.returns-in-Ok-Some
returns-in-Ok-Some c =
    by_made _ _ _ _ _ c.as_str.ensures.value c.deref.ensures.value _ _ _ c.depfile_text.ensures (c.in-Ok-Some.is ∙ ap Ok c.in-Ok-Some.field-0-is) c.made_text.ensures
