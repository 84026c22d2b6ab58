use Rattle.std.proofs.Common.{◌≡◌, ◌++◌, take, map}
use Rattle.scl_key.specs.Directs.{refuse_if_read}
use Rattle.scl_key.specs.Views.{directs_of}
use Rattle.scl_key.proofs.direct.push_unseen.Given as goal

abbrev pub invariant-loop-pattern : goal.invariant-loop-pattern
invariant-loop-pattern l = directs_of l.rows.items ≡ directs_of l.initial.rows.items ++ map refuse_if_read (map (λ v. v.now) (take l.pattern-index l.patterns))
