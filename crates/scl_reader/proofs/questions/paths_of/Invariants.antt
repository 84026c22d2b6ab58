use Rattle.std.proofs.Common.{◌≡◌, ◌++◌, map}
use Rattle.scl_values.specs.Words.{words_of}
use Rattle.scl_reader.specs.Reads.{lacked_of}
use Rattle.scl_reader.proofs.questions.paths_of.Given as goal

abbrev pub invariant-loop-file : goal.invariant-loop-file
invariant-loop-file l = words_of l.paths.items ++ map (λ file. file.path) (lacked_of l.file-iterator.rest.items) ≡ map (λ file. file.path) (lacked_of l.fn.files.items)
