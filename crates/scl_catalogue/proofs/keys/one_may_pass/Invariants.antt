use Rattle.std.proofs.Common.{◌≡◌, map, drop}
use Rattle.std.specs.List.{list_any}
use Rattle.scl_catalogue.specs.Keyed.{may_pass}
use Rattle.scl_catalogue.specs.Views.{test_of}
use Rattle.scl_catalogue.proofs.keys.one_may_pass.Given as goal

abbrev pub invariant-loop-test : goal.invariant-loop-test
invariant-loop-test l = list_any (may_pass l.keys) (map test_of (drop l.test-index l.tests)) ≡ list_any (may_pass l.keys) (map test_of l.tests)
