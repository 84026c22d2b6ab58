use Rattle.std.proofs.Common.{◌≡◌, drop, map}
use Rattle.std.specs.List.{list_any}
use Rattle.scl_patterns.specs.Refusals.{begins_number, has_operand}
use Rattle.scl_patterns.proofs.refusal.has_operand.Given as goal

abbrev pub invariant-loop-rest : goal.invariant-loop-rest
invariant-loop-rest l = list_any begins_number (map (λ rest. rest.now) (drop l.rest-index l.rest-items)) ≡ has_operand l.fn.text
