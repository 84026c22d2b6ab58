use Rattle.std.proofs.Common.{◌≡◌, take}
use Rattle.scl_values.specs.Words.{words_of}
use Rattle.scl_reader.specs.PrecompiledHeaders.{precompiled_in}
use Rattle.scl_reader.proofs.precompiled.precompiled_in.Given as goal

abbrev pub invariant-loop-header : goal.invariant-loop-header
invariant-loop-header l = words_of l.paths.items ≡ precompiled_in (words_of (take l.header-index l.headers)) (words_of l.places)
