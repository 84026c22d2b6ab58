use Rattle.std.proofs.Common.{◌≡◌, take}
use Rattle.std.specs.List.{flat_map}
use Rattle.scl_values.specs.Words.{words_of}
use Rattle.scl_rounds.specs.Headers.{compiled_in}
use Rattle.scl_rounds.proofs.header.compiled_in_each.Given as goal

abbrev pub invariant-loop-folder : goal.invariant-loop-folder
invariant-loop-folder l = words_of l.paths.items ≡ flat_map (compiled_in (words_of l.names)) (words_of (take l.folder-index l.folders))
