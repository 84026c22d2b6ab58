use Rattle.std.proofs.Common.{◌≡◌, ◌++◌, length}
use Rattle.scl_values.specs.Words.{words_of}
use Rattle.scl_gnu.specs.OutputFiles.{without_output_files}
use Rattle.scl_gnu.proofs.gcc.output_files.without_output_files.Given as goal

abbrev pub invariant-loop-rest : goal.invariant-loop-rest
invariant-loop-rest l = words_of l.kept.items ++ without_output_files (words_of l.rest) ≡ without_output_files (words_of l.words)

abbrev pub decreases-loop-rest : goal.decreases-loop-rest
decreases-loop-rest l = length l.rest
