use Rattle.std.proofs.Common.{◌≡◌, ◌++◌, take, map}
use Rattle.scl_key.specs.Views.{outputs_of}
use Rattle.scl_key.specs.Made.{made_as}
use Rattle.scl_key.proofs.made.push_lacking.Given as goal

abbrev pub invariant-loop-path : goal.invariant-loop-path
invariant-loop-path l = outputs_of l.outputs.items ≡ outputs_of l.initial.outputs.items ++ map (made_as l.name) (map (λ v. v.now) (take l.path-index l.paths))
