use Rattle.std.proofs.Common.{◌∙◌}
use Rattle.scl_questions.proofs.SameWords.{pointwise-words}
use Rattle.scl_questions.proofs.question.are_same.Goals as goal

pub returns : goal.returns
returns c = c.eq.ensures ∙ pointwise-words c.args.words.now c.args.others.now
