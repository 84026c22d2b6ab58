use Rattle.std.proofs.Common.{◌≡◌, take}
use Rattle.std.specs.List.{flat_map}
use Rattle.scl_values.specs.Words.{words_of}
use Rattle.scl_files.specs.Wanted.{lacked_by}
use Rattle.scl_files.proofs.wanted.absent_files.Given as goal

abbrev pub invariant-loop-word : goal.invariant-loop-word
invariant-loop-word l = words_of l.paths.items ≡ flat_map (lacked_by l.kind l.directory l.view.files) (words_of (take l.word-index l.words))
