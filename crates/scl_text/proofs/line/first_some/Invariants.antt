use Rattle.std.proofs.Common.{◌≡◌, drop}
use Rattle.scl_text.specs.Lines.{first_some, verdicts_of}
use Rattle.scl_text.proofs.line.first_some.Given as goal

abbrev pub invariant-loop-refusal : goal.invariant-loop-refusal
invariant-loop-refusal l = first_some (verdicts_of (drop l.refusal-index l.refusals)) ≡ first_some (verdicts_of l.refusals)
