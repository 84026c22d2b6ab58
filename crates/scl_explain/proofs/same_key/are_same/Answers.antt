use Rattle.std.proofs.Common.{◌∙◌}
use Rattle.scl_explain.proofs.SameKeyLaws.{same_rows}
use Rattle.scl_explain.proofs.same_key.are_same.Goals as goal

pub returns : goal.returns
returns c = c.eq.ensures ∙ same_rows c.args.key.now c.args.others.now
