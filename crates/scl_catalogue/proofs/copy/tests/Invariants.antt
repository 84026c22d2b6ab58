use Rattle.std.proofs.Common.{◌≡◌, map, take}
use Rattle.scl_catalogue.specs.Views.{test_of}
use Rattle.scl_catalogue.proofs.copy.tests.Given as goal

abbrev pub invariant-loop-one : goal.invariant-loop-one
invariant-loop-one l = map test_of l.copies.items ≡ map test_of (take l.one-index l.all)
