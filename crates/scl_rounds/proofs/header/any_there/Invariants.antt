use Rattle.std.proofs.Common.{◌≡◌, drop}
use Rattle.scl_values.specs.Words.{words_of}
use Rattle.scl_rounds.specs.Headers.{any_there}
use Rattle.scl_rounds.specs.Views.{machine_of}
use Rattle.scl_rounds.proofs.header.any_there.Given as goal

abbrev pub invariant-loop-path : goal.invariant-loop-path
invariant-loop-path l = any_there (machine_of l.told) (words_of (drop l.path-index l.paths)) ≡ any_there (machine_of l.told) (words_of l.paths)
