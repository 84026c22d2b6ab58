use Rattle.std.proofs.Common.{◌≡◌, ◌++◌, drop, map}
use Rattle.scl_values.specs.Words.{words_of}
use Rattle.scl_readings.specs.Markers.{files_in}
use Rattle.scl_readings.proofs.files.files_in.Given as goal

abbrev pub invariant-loop-directive : goal.invariant-loop-directive
invariant-loop-directive l =
    words_of l.files.items ++ files_in l.named (map (λ directive. directive.now) (drop l.directive-index l.directives)) ≡ files_in l.named (map (λ directive. directive.now) l.directives)
