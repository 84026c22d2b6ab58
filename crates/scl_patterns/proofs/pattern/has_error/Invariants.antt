use Rattle.std.proofs.Common.{◌≡◌, drop, map}
use Rattle.std.specs.List.{list_any}
use Rattle.scl_patterns.specs.Patterns.{has_error, names_error}
use Rattle.scl_patterns.proofs.pattern.has_error.Given as goal

abbrev pub invariant-loop-rest : goal.invariant-loop-rest
invariant-loop-rest l = list_any names_error (map (λ rest. rest.now) (drop l.rest-index l.rest-items)) ≡ has_error l.fn.text
