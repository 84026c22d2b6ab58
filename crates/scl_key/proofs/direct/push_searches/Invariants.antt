use Rattle.std.proofs.Common.{◌≡◌, ◌++◌, map}
use Rattle.scl_text.specs.Runs.{runs_of}
use Rattle.scl_key.specs.Directs.{search}
use Rattle.scl_key.specs.Views.{directs_of}
use Rattle.scl_key.proofs.direct.push_searches.Given as goal

abbrev pub invariant-loop-one : goal.invariant-loop-one
invariant-loop-one l = directs_of l.rows.items ≡ directs_of l.initial.rows.items ++ map search (runs_of l.yielded)
