use Rattle.std.proofs.Common.{◌≡◌, ◌++◌, take}
use Rattle.scl_values.specs.Words.{words_of}
use Rattle.scl_rounds.specs.Headers.{folders_by}
use Rattle.scl_rounds.specs.Views.{machine_of}
use Rattle.scl_rounds.proofs.header.push_folders_by.Given as goal

abbrev pub invariant-loop-name : goal.invariant-loop-name
invariant-loop-name l = words_of l.folders.items ≡ words_of l.initial.folders.items ++ folders_by (machine_of l.told) (words_of (take l.name-index l.variables))
