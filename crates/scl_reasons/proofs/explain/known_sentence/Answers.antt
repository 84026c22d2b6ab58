use Rattle.std.proofs.Common.{◌∙◌, ap}
use Rattle.scl_reasons.specs.Explanations.{text_for}
use Rattle.scl_reasons.proofs.TextLaws.{text-is}
use Rattle.scl_reasons.proofs.explain.known_sentence.Goals as goal

pub returns : goal.returns
returns c = c.text_in.ensures ∙ text-is c.args.reason.now c.explanations.result.now ∙ ap (text_for c.args.reason.now) c.explanations.ensures
