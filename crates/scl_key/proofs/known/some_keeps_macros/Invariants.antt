use Rattle.std.proofs.Common.{◌≡◌, drop}
use Rattle.std.specs.List.{list_any}
use Rattle.scl_key.specs.Effects.{keeps_macros}
use Rattle.scl_key.specs.KnownViews.{all_judged}
use Rattle.scl_key.proofs.known.some_keeps_macros.Given as goal

abbrev pub invariant-loop-one : goal.invariant-loop-one
invariant-loop-one l = list_any (λ j. keeps_macros j.doing) (all_judged (drop l.one-index l.common)) ≡ list_any (λ j. keeps_macros j.doing) (all_judged l.common)
