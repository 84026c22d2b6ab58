use Rattle.std.proofs.Common.{◌≡◌, take}
use Rattle.std.specs.List.{flat_map}
use Rattle.scl_values.specs.Words.{words_of}
use Rattle.scl_reader.specs.Questions.{no_directory}
use Rattle.scl_reader.proofs.questions.absent_directories.Given as goal

abbrev pub invariant-loop-path : goal.invariant-loop-path
invariant-loop-path l = words_of l.paths.items ≡ flat_map (no_directory l.view) (words_of (take l.path-index l.hashed))
