use Rattle.std.proofs.Common.{◌≡◌, ◌++◌, take, map}
use Rattle.scl_values.specs.Words.{words_of}
use Rattle.scl_key.proofs.reads.push_values.Given as goal

abbrev pub invariant-loop-value : goal.invariant-loop-value
invariant-loop-value l = words_of l.paths.items ≡ words_of l.initial.paths.items ++ map (λ v. v.now) (take l.value-index l.values)
