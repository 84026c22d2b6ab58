use Rattle.std.proofs.Common.{◌≡◌, ◌++◌, take}
use Rattle.std.specs.List.{flat_map}
use Rattle.scl_key.specs.KnownViews.{all_judged}
use Rattle.scl_key.specs.Keys.{no_key_by}
use Rattle.scl_key.specs.Views.{no_keys_of}
use Rattle.scl_key.proofs.no_key.push_by_words.Given as goal

abbrev pub invariant-loop-one : goal.invariant-loop-one
invariant-loop-one l = no_keys_of l.why.items ≡ no_keys_of l.initial.why.items ++ flat_map no_key_by (all_judged (take l.one-index l.words))
