use Rattle.std.proofs.Common.{◌≡◌, drop}
use Rattle.std.specs.List.{list_any}
use Rattle.scl_values.specs.Words.{words_of}
use Rattle.scl_rounds.specs.Listings.{is_loose}
use Rattle.scl_rounds.proofs.listing.any_loose.Given as goal

abbrev pub invariant-loop-word : goal.invariant-loop-word
invariant-loop-word l =
    list_any is_loose (words_of (drop l.word-index l.words)) ≡ list_any is_loose (words_of l.words)
