use Rattle.std.proofs.Common.{◌≡◌, ◌++◌, drop}
use Rattle.scl_values.specs.Words.{words_of}
use Rattle.scl_rounds.specs.Headers.{behind_slashes}
use Rattle.scl_rounds.proofs.header.push_behind_slashes.Given as goal

abbrev pub invariant-loop-at : goal.invariant-loop-at
invariant-loop-at l = words_of l.names.items ++ behind_slashes (drop l.at l.path) ≡ words_of l.initial.names.items ++ behind_slashes l.path
