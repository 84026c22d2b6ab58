use Rattle.std.proofs.Common.{◌≡◌, ◌++◌, map}
use Rattle.scl_text.specs.Runs.{runs_of}
use Rattle.scl_key.specs.Parts.{run_else}
use Rattle.scl_key.specs.Views.{parts_of}
use Rattle.scl_key.proofs.runs.push_each_else.Given as goal

abbrev pub invariant-loop-one : goal.invariant-loop-one
invariant-loop-one l = parts_of l.parts.items ≡ parts_of l.initial.parts.items ++ map run_else (runs_of l.yielded)
