use Rattle.std.proofs.Common.{◌≡◌, drop}
use Rattle.scl_key.specs.Views.{outputs_of}
use Rattle.scl_describe.specs.DependencyFiles.{dependency_path}
use Rattle.scl_describe.proofs.dependency_file.dependency_path.Given as goal

abbrev pub invariant-loop-output : goal.invariant-loop-output
invariant-loop-output l = dependency_path (outputs_of (drop l.output-index l.outputs)) ≡ dependency_path (outputs_of l.outputs)
