use Rattle.std.proofs.Common.{◌≡◌, ◌++◌, take, map}
use Rattle.scl_files.specs.Paths.{join}
use Rattle.scl_values.specs.Words.{words_of}
use Rattle.scl_rounds.proofs.listing.push_in_folder.Given as goal

abbrev pub invariant-loop-name : goal.invariant-loop-name
invariant-loop-name l =
    words_of l.paths.items ≡ words_of l.initial.paths.items ++ map (join l.folder) (words_of (take l.name-index l.names))
