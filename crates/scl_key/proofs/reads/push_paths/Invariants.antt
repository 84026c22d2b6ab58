use Rattle.std.proofs.Common.{◌≡◌, ◌++◌, take}
use Rattle.std.specs.List.{flat_map}
use Rattle.scl_values.specs.Words.{words_of}
use Rattle.scl_key.specs.KnownViews.{all_judged}
use Rattle.scl_key.specs.Reads.{paths_by}
use Rattle.scl_key.proofs.reads.push_paths.Given as goal

abbrev pub invariant-loop-one : goal.invariant-loop-one
invariant-loop-one l = words_of l.paths.items ≡ words_of l.initial.paths.items ++ flat_map paths_by (all_judged (take l.one-index l.words))
