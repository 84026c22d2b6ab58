use Rattle.std.proofs.Common.{◌≡◌, ◌++◌, take}
use Rattle.std.specs.List.{flat_map}
use Rattle.std.specs.Option.{option_copied}
use Rattle.scl_values.specs.Words.{words_of}
use Rattle.scl_key.specs.KnownViews.{all_judged}
use Rattle.scl_key.specs.Reads.{profile_by}
use Rattle.scl_key.proofs.reads.push_profiles_of.Given as goal

abbrev pub invariant-loop-one : goal.invariant-loop-one
invariant-loop-one l = words_of l.paths.items ≡ words_of l.initial.paths.items ++ flat_map (λ j. profile_by (option_copied l.object) j.doing) (all_judged (take l.one-index l.words))
