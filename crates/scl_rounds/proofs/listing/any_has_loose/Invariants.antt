use Rattle.std.proofs.Common.{◌≡◌, drop}
use Rattle.std.specs.List.{list_any}
use Rattle.scl_key.specs.Views.{parts_of}
use Rattle.scl_rounds.specs.Listings.{has_loose}
use Rattle.scl_rounds.proofs.listing.any_has_loose.Given as goal

abbrev pub invariant-loop-part : goal.invariant-loop-part
invariant-loop-part l =
    list_any has_loose (parts_of (drop l.part-index l.parts)) ≡ list_any has_loose (parts_of l.parts)
