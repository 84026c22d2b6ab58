-- The paths of outputs, as the code and as the record has them.
use Rattle.std.proofs.Common.{◌≡◌, ◌∷◌, [], List, refl, ap}
use Rattle.scl_key.specs.declared.part.Output.{Output}
use Rattle.scl_key.specs.Keys.{made_paths}
use Rattle.scl_key.specs.Views.{outputs_of, paths_of}

pub paths-of : (outputs : List Output) → paths_of outputs ≡ made_paths (outputs_of outputs)
paths-of [] = refl
paths-of (output ∷ outputs) = ap (λ paths. output.path.items ∷ paths) (paths-of outputs)
