use Rattle.std.proofs.Common.{◌≡◌, map, drop}
use Rattle.scl_catalogue.specs.Numbered.{with_tests}
use Rattle.scl_catalogue.specs.Views.{test_of}
use Rattle.scl_catalogue.proofs.numbers.NumberSet.add_tests.Given as goal

abbrev pub invariant-loop-test : goal.invariant-loop-test
invariant-loop-test l = with_tests l.self (map test_of (drop l.test-index l.tests)) ≡ with_tests l.initial.self (map test_of l.tests)
