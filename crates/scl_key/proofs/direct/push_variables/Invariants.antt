use Rattle.std.proofs.Common.{◌≡◌, ◌++◌, take, map}
use Rattle.scl_key.specs.Directs.{env}
use Rattle.scl_key.specs.Views.{directs_of}
use Rattle.scl_key.proofs.direct.push_variables.Given as goal

abbrev pub invariant-loop-name : goal.invariant-loop-name
invariant-loop-name l = directs_of l.rows.items ≡ directs_of l.initial.rows.items ++ map env (map (λ v. v.now) (take l.name-index l.names))
