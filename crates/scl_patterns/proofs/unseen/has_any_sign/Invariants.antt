use Rattle.std.proofs.Common.{◌≡◌, drop, map}
use Rattle.std.specs.List.{list_any}
use Rattle.scl_patterns.specs.Unseen.{has_sign, signs}
use Rattle.scl_patterns.proofs.unseen.has_any_sign.Given as goal

abbrev pub invariant-loop-sign : goal.invariant-loop-sign
invariant-loop-sign l = list_any (has_sign l.fn.text) (map (λ sign. (sign.0.now, sign.1)) (drop l.sign-index l.sign-items)) ≡ list_any (has_sign l.fn.text) signs
