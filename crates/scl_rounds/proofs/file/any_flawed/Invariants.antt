use Rattle.std.proofs.Common.{◌≡◌, drop}
use Rattle.scl_values.specs.Words.{words_of}
use Rattle.scl_rounds.specs.Files.{any_flawed}
use Rattle.scl_rounds.specs.Views.{machine_of}
use Rattle.scl_rounds.proofs.file.any_flawed.Given as goal

abbrev pub invariant-loop-name : goal.invariant-loop-name
invariant-loop-name l = any_flawed l.flaw (machine_of l.told) (words_of (drop l.name-index l.names)) ≡ any_flawed l.flaw (machine_of l.told) (words_of l.names)
