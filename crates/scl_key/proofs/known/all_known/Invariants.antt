use Rattle.std.proofs.Common.{◌≡◌, drop}
use Rattle.std.specs.List.{list_all}
use Rattle.scl_key.specs.Given.{is_known}
use Rattle.scl_key.specs.KnownViews.{all_given}
use Rattle.scl_key.proofs.known.all_known.Given as goal

abbrev pub invariant-loop-one : goal.invariant-loop-one
invariant-loop-one l = list_all (λ g. is_known g.brings) (all_given (drop l.one-index l.given)) ≡ list_all (λ g. is_known g.brings) (all_given l.given)
