use Rattle.std.proofs.Common.{◌≡◌, map, drop}
use Rattle.std.specs.List.{list_any}
use Rattle.scl_catalogue.specs.Found.{test_passes}
use Rattle.scl_catalogue.specs.Views.{seen_of, test_of}
use Rattle.scl_catalogue.proofs.test.Group.has.Given as goal

abbrev pub invariant-loop-test : goal.invariant-loop-test
invariant-loop-test l =
    let o = seen_of l.option in
    list_any (λ t. test_passes t o) (map test_of (drop l.test-index l.self.tests.items)) ≡ list_any (λ t. test_passes t o) (map test_of l.self.tests.items)
