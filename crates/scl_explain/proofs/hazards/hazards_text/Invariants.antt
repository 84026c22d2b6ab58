use Rattle.std.proofs.Common.{◌≡◌, ◌++◌, take}
use Rattle.scl_explain.specs.Replies.{hazards_text}
use Rattle.scl_explain.proofs.hazards.hazards_text.Given as goal

abbrev pub invariant-loop-hazard : goal.invariant-loop-hazard
invariant-loop-hazard l = l.text.items ≡ l.initial.text.items ++ hazards_text (take l.hazard-index l.hazards)
