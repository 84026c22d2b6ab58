use Rattle.std.proofs.Common.{◌≡◌, drop, map}
use Rattle.std.specs.List.{list_any}
use Rattle.scl_patterns.specs.Patterns.{has_pragma, expands}
use Rattle.scl_patterns.proofs.pattern.has_pragma.Given as goal

abbrev pub invariant-loop-rest : goal.invariant-loop-rest
invariant-loop-rest l = list_any expands (map (λ rest. rest.now) (drop l.rest-index l.rest-items)) ≡ has_pragma l.fn.text
