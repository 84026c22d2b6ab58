use Rattle.std.proofs.Common.{◌≡◌, ◌++◌, take, map}
use Rattle.scl_key.specs.Views.{parts_of, outputs_of}
use Rattle.scl_key.specs.Parts.{output}
use Rattle.scl_key.proofs.key.push_outputs.Given as goal

abbrev pub invariant-loop-one : goal.invariant-loop-one
invariant-loop-one l = parts_of l.parts.items ≡ parts_of l.initial.parts.items ++ map output (outputs_of (take l.one-index l.outputs))
