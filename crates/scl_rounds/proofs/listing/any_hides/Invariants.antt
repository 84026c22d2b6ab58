use Rattle.std.proofs.Common.{◌≡◌, drop}
use Rattle.scl_values.specs.Words.{words_of}
use Rattle.scl_rounds.specs.Listings.{any_hides}
use Rattle.scl_rounds.specs.Views.{machine_of}
use Rattle.scl_rounds.proofs.listing.any_hides.Given as goal

abbrev pub invariant-loop-source : goal.invariant-loop-source
invariant-loop-source l =
    any_hides (machine_of l.told) (words_of (drop l.source-index l.sources)) ≡ any_hides (machine_of l.told) (words_of l.sources)
