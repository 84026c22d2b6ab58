use Rattle.std.proofs.Common.{◌≡◌, drop}
use Rattle.scl_explain.specs.Replies.{some_concern_files}
use Rattle.scl_explain.proofs.commanded.some_concern_files.Given as goal

abbrev pub invariant-loop-hazard : goal.invariant-loop-hazard
invariant-loop-hazard l = some_concern_files (drop l.hazard-index l.hazards) ≡ some_concern_files l.hazards
