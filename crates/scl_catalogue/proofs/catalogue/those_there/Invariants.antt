use Rattle.std.proofs.Common.{◌≡◌, filter, map, take}
use Rattle.scl_catalogue.specs.Found.{is_there}
use Rattle.scl_catalogue.specs.Views.{entry_of, line_of}
use Rattle.scl_catalogue.proofs.catalogue.those_there.Given as goal

abbrev pub invariant-loop-entry : goal.invariant-loop-entry
invariant-loop-entry l = map (λ entry. entry_of entry.now) l.kept.items ≡ filter (is_there (line_of l.line)) (map entry_of (take l.entry-index l.entries))
