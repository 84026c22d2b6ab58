use Rattle.std.proofs.Common.{◌≡◌, drop, map}
use Rattle.scl_catalogue.specs.Lookup.{first_said}
use Rattle.scl_catalogue.specs.Views.{said_of, seen_of}
use Rattle.scl_catalogue.proofs.lookup.first_said.Given as goal

abbrev pub invariant-loop-one : goal.invariant-loop-one
invariant-loop-one g l = first_said l.compiler l.version (seen_of l.word) (map said_of (drop l.one-index l.all)) ≡ first_said l.compiler l.version (seen_of l.word) (map said_of l.all)
