use Rattle.std.proofs.Common.{◌∙◌}
use Rattle.scl_text.proofs.LineLaws.{last-word}
use Rattle.scl_text.proofs.line.last_word.Goals as goal

pub returns-in-Some : goal.returns-in-Some
returns-in-Some c = c.deref.ensures.value ∙ last-word c.args.words.now c.in-Some.word.now c.in-Some.ensures.value
