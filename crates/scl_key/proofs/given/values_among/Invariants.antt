use Rattle.std.proofs.Common.{◌≡◌, take, map}
use Rattle.scl_key.specs.KnownViews.{all_given}
use Rattle.scl_key.specs.Given.{values_among}
use Rattle.scl_key.proofs.given.values_among.Given as goal

abbrev pub invariant-loop-one : goal.invariant-loop-one
invariant-loop-one l = map (λ v. v.now) l.values.items ≡ values_among l.brings (all_given (take l.one-index l.given))
