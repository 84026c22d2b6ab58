use Rattle.std.proofs.Common.{◌≡◌, drop, map}
use Rattle.scl_catalogue.specs.Lookup.{first_brought}
use Rattle.scl_catalogue.specs.Views.{flagged_of}
use Rattle.scl_catalogue.proofs.lookup.first_brought.Given as goal

abbrev pub invariant-loop-one : goal.invariant-loop-one
invariant-loop-one l = first_brought (map flagged_of (drop l.one-index l.all)) l.word ≡ first_brought (map flagged_of l.all) l.word
