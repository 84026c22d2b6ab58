use Rattle.std.proofs.Common.{◌≡◌, ◌++◌, map}
use Rattle.scl_text.specs.Records.{artifact_of}
use Rattle.std.specs.Map.Iter.{deref_pair}
use Rattle.scl_key.specs.Views.{outputs_of}
use Rattle.scl_key.proofs.made.push_had.Given as goal

abbrev pub invariant-loop-name : goal.invariant-loop-name
invariant-loop-name l = outputs_of l.outputs.items ≡ outputs_of l.initial.outputs.items ++ map artifact_of (map deref_pair l.yielded)
