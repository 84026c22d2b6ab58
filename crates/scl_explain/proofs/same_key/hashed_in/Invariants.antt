use Rattle.std.proofs.Common.{◌≡◌, take}
use Rattle.scl_text.specs.Runs.{runs_of}
use Rattle.scl_explain.specs.Borrowed.{borrowed}
use Rattle.scl_explain.specs.SameKeys.{hashed_in}
use Rattle.scl_explain.proofs.same_key.hashed_in.Given as goal

abbrev pub invariant-loop-row : goal.invariant-loop-row
invariant-loop-row l = borrowed l.key.items ≡ hashed_in (runs_of (take l.row-index l.rows))
