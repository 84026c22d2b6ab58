use Rattle.std.proofs.Common.{◌≡◌, drop}
use Rattle.scl_values.specs.Words.{words_of}
use Rattle.scl_rounds.specs.Listings.{all_regular}
use Rattle.scl_rounds.specs.Views.{machine_of}
use Rattle.scl_rounds.proofs.listing.all_regular.Given as goal

abbrev pub invariant-loop-name : goal.invariant-loop-name
invariant-loop-name l =
    all_regular (machine_of l.told) (words_of (drop l.name-index l.names)) ≡ all_regular (machine_of l.told) (words_of l.names)
