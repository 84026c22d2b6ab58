use Rattle.std.proofs.Common.{◌≡◌, ◌++◌, take}
use Rattle.scl_values.specs.Words.{words_of}
use Rattle.scl_rounds.specs.Listings.{in_folders}
use Rattle.scl_rounds.proofs.listing.push_in_folders.Given as goal

abbrev pub invariant-loop-folder : goal.invariant-loop-folder
invariant-loop-folder l =
    words_of l.paths.items ≡ words_of l.initial.paths.items ++ in_folders (words_of (take l.folder-index l.folders)) (words_of l.names)
