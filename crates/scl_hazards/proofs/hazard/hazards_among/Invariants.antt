use Rattle.std.proofs.Common.{◌≡◌, map, take}
use Rattle.scl_catalogue.specs.Views.{entry_of}
use Rattle.scl_hazards.specs.Hazards.{hazards_among}
use Rattle.scl_hazards.proofs.hazard.hazards_among.Given as goal

abbrev pub invariant-loop-entry : goal.invariant-loop-entry
invariant-loop-entry l = l.hazards.items ≡ hazards_among (map (λ entry. entry_of entry.now) (take l.entry-index l.entries))
