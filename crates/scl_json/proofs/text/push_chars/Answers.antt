use Rattle.scl_json.proofs.CharLaws.{char-step, char-end}
use Rattle.scl_json.proofs.text.push_chars.Goals as goal

pub loop-c-preserved : goal.loop-c-preserved
loop-c-preserved c = char-step c.loop-c.json.items _ _ _ _ c.in-Some.c c.loop-c.invariant.0 c.in-Some.ensures.steps.0 c.loop-c.invariant.1 c.in_ok-push_char.ensures

pub returns : goal.returns
returns c = char-end _ _ _ c.in-None.ensures.steps.0.0 c.loop-c.invariant.1
