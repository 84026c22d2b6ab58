use Rattle.std.proofs.Common.{◌≡◌, drop}
use Rattle.std.specs.List.{list_any}
use Rattle.scl_hazards.specs.Serving.{serves}
use Rattle.scl_hazards.proofs.names.serves.Given as goal

abbrev pub invariant-loop-one : goal.invariant-loop-one
invariant-loop-one l = list_any (serves l.compiler) (drop l.one-index l.served) ≡ list_any (serves l.compiler) l.served
