use Rattle.std.proofs.Common.{◌≡◌, ◌++◌, take, map}
use Rattle.std.specs.List.{flat_map}
use Rattle.scl_values.specs.Words.{words_of}
use Rattle.scl_key.specs.Reads.{precompiled}
use Rattle.scl_key.proofs.reads.push_all_precompiled.Given as goal

abbrev pub invariant-loop-header : goal.invariant-loop-header
invariant-loop-header l = words_of l.paths.items ≡ words_of l.initial.paths.items ++ flat_map precompiled (map (λ v. v.now) (take l.header-index l.headers))
