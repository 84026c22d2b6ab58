use Rattle.std.proofs.Common.{◌≡◌, ◌++◌, take, map, filter}
use Rattle.scl_values.specs.Words.{words_of}
use Rattle.scl_key.specs.Reads.{is_path, without_at}
use Rattle.scl_key.proofs.reads.push_those_that_are.Given as goal

abbrev pub invariant-loop-value : goal.invariant-loop-value
invariant-loop-value l = words_of l.paths.items ≡ words_of l.initial.paths.items ++ filter is_path (map without_at (map (λ v. v.now) (take l.value-index l.values)))
