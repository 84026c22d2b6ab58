use Rattle.std.proofs.Common.{◌≡◌, take}
use Rattle.scl_values.specs.Words.{words_of}
use Rattle.scl_reader.specs.PrecompiledHeaders.{places}
use Rattle.scl_reader.proofs.precompiled.places.Given as goal

abbrev pub invariant-loop-folder : goal.invariant-loop-folder
invariant-loop-folder l = words_of l.found.items ≡ places l.directory (words_of (take l.folder-index l.folders))
