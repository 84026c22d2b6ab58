use Rattle.std.proofs.Common.{◌≡◌, ◌++◌, take}
use Rattle.std.specs.List.{flat_map}
use Rattle.scl_values.specs.Words.{words_of}
use Rattle.scl_reader.specs.PrecompiledHeaders.{precompiled_at}
use Rattle.scl_reader.proofs.precompiled.push_header.Given as goal

abbrev pub invariant-loop-place : goal.invariant-loop-place
invariant-loop-place l = words_of l.paths.items ≡ words_of l.initial.paths.items ++ flat_map (precompiled_at l.header) (words_of (take l.place-index l.places))
