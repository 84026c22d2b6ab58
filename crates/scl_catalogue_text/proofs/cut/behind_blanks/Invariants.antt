use Rattle.std.proofs.Common.{◌≡◌, length}
use Rattle.scl_catalogue_text.specs.Cutting.{behind_blanks}
use Rattle.scl_catalogue_text.proofs.cut.behind_blanks.Given as goal

abbrev pub invariant-loop-first : goal.invariant-loop-first
invariant-loop-first l = behind_blanks l.left ≡ behind_blanks l.bytes

abbrev pub decreases-loop-first : goal.decreases-loop-first
decreases-loop-first l = length l.left
