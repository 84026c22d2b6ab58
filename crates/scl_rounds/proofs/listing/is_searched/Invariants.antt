use Rattle.std.proofs.Common.{◌≡◌, drop}
use Rattle.std.specs.List.{list_any}
use Rattle.scl_key.specs.Views.{directs_of}
use Rattle.scl_rounds.specs.Listings.{is_search, is_searched}
use Rattle.scl_rounds.specs.Views.{key_of}
use Rattle.scl_rounds.proofs.listing.is_searched.Given as goal

abbrev pub invariant-loop-one : goal.invariant-loop-one
invariant-loop-one l =
    list_any is_search (directs_of (drop l.one-index l.key.direct.now)) ≡ is_searched (key_of l.key)
