use Rattle.std.proofs.Common.{◌≡◌, ◌++◌, length, map}
use Rattle.scl_catalogue_text.specs.Cutting.{parts}
use Rattle.scl_catalogue_text.proofs.cut.parts.Given as goal

abbrev pub invariant-loop-part : goal.invariant-loop-part
invariant-loop-part l = map (λ part. part.now) l.all.items ++ parts l.mark l.left ≡ parts l.mark l.bytes

abbrev pub decreases-loop-part : goal.decreases-loop-part
decreases-loop-part l = length l.left
