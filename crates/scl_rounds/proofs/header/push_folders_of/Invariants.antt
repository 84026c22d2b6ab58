use Rattle.std.proofs.Common.{◌≡◌, ◌++◌, take, map}
use Rattle.scl_values.specs.Words.{words_of}
use Rattle.scl_rounds.specs.Headers.{folder_of}
use Rattle.scl_rounds.proofs.header.push_folders_of.Given as goal

abbrev pub invariant-loop-path : goal.invariant-loop-path
invariant-loop-path l = words_of l.folders.items ≡ words_of l.initial.folders.items ++ map folder_of (words_of (take l.path-index l.paths))
