use Rattle.std.proofs.Common.{◌≡◌, map, drop}
use Rattle.scl_catalogue.specs.Over.{is_named}
use Rattle.scl_catalogue.specs.Views.{entry_of}
use Rattle.scl_catalogue.proofs.over.is_named.Given as goal

abbrev pub invariant-loop-entry : goal.invariant-loop-entry
invariant-loop-entry l = is_named (map entry_of (drop l.entry-index l.entries)) l.name ≡ is_named (map entry_of l.entries) l.name
