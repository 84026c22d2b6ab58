use Rattle.std.proofs.Common.{◌≡◌}
use Rattle.scl_values.specs.Words.{words_of}
use Rattle.scl_rounds.specs.Shown.{each_once}
use Rattle.scl_rounds.proofs.shown.each_once.Given as goal

abbrev pub invariant-loop-name : goal.invariant-loop-name
invariant-loop-name l = words_of l.once.items ≡ each_once (words_of l.yielded)
