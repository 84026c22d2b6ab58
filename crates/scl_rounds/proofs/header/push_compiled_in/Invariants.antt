use Rattle.std.proofs.Common.{◌≡◌, ◌++◌, take}
use Rattle.scl_values.specs.Words.{words_of}
use Rattle.scl_rounds.specs.Headers.{compiled_in}
use Rattle.scl_rounds.proofs.header.push_compiled_in.Given as goal

abbrev pub invariant-loop-name : goal.invariant-loop-name
invariant-loop-name l = words_of l.paths.items ≡ words_of l.initial.paths.items ++ compiled_in (words_of (take l.name-index l.names)) l.folder
