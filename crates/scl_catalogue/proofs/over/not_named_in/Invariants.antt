use Rattle.std.proofs.Common.{◌≡◌, map}
use Rattle.scl_catalogue.specs.Over.{not_named_in}
use Rattle.scl_catalogue.specs.Views.{entry_of}
use Rattle.scl_catalogue.proofs.over.not_named_in.Given as goal

abbrev pub invariant-loop-entry : goal.invariant-loop-entry
invariant-loop-entry l = map entry_of l.kept.items ≡ not_named_in (map entry_of l.own) (map entry_of l.yielded)
