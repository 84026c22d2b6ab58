use Rattle.std.proofs.Common.{◌≡◌, drop}
use Rattle.std.specs.List.{list_any}
use Rattle.scl_catalogue.specs.Found.{serves}
use Rattle.scl_catalogue.proofs.case.serves.Given as goal

abbrev pub invariant-loop-one : goal.invariant-loop-one
invariant-loop-one l = list_any (serves l.compiler l.version) (drop l.one-index l.served) ≡ list_any (serves l.compiler l.version) l.served
