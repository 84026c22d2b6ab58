use Rattle.std.proofs.Common.{◌≡◌, ◌++◌, take, map}
use Rattle.scl_key.specs.Directs.{first}
use Rattle.scl_key.specs.Views.{directs_of}
use Rattle.scl_key.proofs.direct.push_first.Given as goal

abbrev pub invariant-loop-header : goal.invariant-loop-header
invariant-loop-header l = directs_of l.rows.items ≡ directs_of l.initial.rows.items ++ map first (map (λ v. v.now) (take l.header-index l.headers))
