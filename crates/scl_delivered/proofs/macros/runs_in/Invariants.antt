use Rattle.std.proofs.Common.{◌≡◌, map, take}
use Rattle.scl_values.specs.Words.{words_of}
use Rattle.scl_key.specs.Views.{parts_of}
use Rattle.scl_delivered.specs.Macros.{runs_in}
use Rattle.scl_delivered.proofs.macros.runs_in.Given as goal

abbrev pub invariant-loop-part : goal.invariant-loop-part
invariant-loop-part l = map (λ run. words_of run.now) l.runs.items ≡ runs_in (parts_of (take l.part-index l.parts))
