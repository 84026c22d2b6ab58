use Rattle.std.proofs.Common.{◌≡◌, ◌++◌, map, take}
use Rattle.std.specs.List.{flat_map}
use Rattle.scl_catalogue.specs.Lookup.{flagged_by}
use Rattle.scl_catalogue.specs.Views.{flagged_of, test_of}
use Rattle.scl_catalogue.proofs.lookup.push_tests.Given as goal

abbrev pub invariant-loop-test : goal.invariant-loop-test
invariant-loop-test l = map flagged_of l.flagged.items ≡ map flagged_of l.initial.flagged.items ++ flat_map (flagged_by l.brings) (map test_of (take l.test-index l.tests))
