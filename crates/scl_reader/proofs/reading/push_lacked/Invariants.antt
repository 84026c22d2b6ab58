use Rattle.std.proofs.Common.{◌≡◌, ◌++◌, take}
use Rattle.scl_values.specs.Words.{words_of}
use Rattle.scl_reader.specs.Reads.{lacked_of, named_by}
use Rattle.scl_reader.proofs.reading.push_lacked.Given as goal

abbrev pub invariant-loop-path : goal.invariant-loop-path
invariant-loop-path l = lacked_of l.files.items ≡ lacked_of l.initial.files.items ++ named_by l.kind (words_of (take l.path-index l.paths))
