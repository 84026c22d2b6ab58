use Rattle.std.proofs.Common.{◌≡◌, drop}
use Rattle.std.specs.List.{list_all}
use Rattle.scl_key.specs.Effects.{is_plain}
use Rattle.scl_key.specs.KnownViews.{all_judged}
use Rattle.scl_key.proofs.key.are_plain.Given as goal

abbrev pub invariant-loop-one : goal.invariant-loop-one
invariant-loop-one l = list_all (λ j. is_plain j.doing) (all_judged (drop l.one-index l.words)) ≡ list_all (λ j. is_plain j.doing) (all_judged l.words)
