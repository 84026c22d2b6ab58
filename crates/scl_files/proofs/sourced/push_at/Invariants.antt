use Rattle.std.proofs.Common.{◌≡◌, ◌++◌, replicate}
use Rattle.scl_files.proofs.sourced.push_at.Given as goal

abbrev pub invariant-loop-i : goal.invariant-loop-i
invariant-loop-i l = l.ats.items ≡ l.fn.ats.items ++ replicate l._i l.at
