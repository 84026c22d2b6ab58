use Rattle.std.proofs.Common.{◌≡◌, drop}
use Rattle.std.specs.List.{list_any}
use Rattle.scl_text.specs.Runs.{runs_of}
use Rattle.scl_explain.specs.SameKeys.{forbids}
use Rattle.scl_explain.proofs.same_key.some_forbid.Given as goal

abbrev pub invariant-loop-row : goal.invariant-loop-row
invariant-loop-row l = list_any forbids (runs_of (drop l.row-index l.rows)) ≡ list_any forbids (runs_of l.rows)
