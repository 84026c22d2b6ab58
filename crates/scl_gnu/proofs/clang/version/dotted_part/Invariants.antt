use Rattle.std.proofs.Common.{◌≡◌, find, length}
use denote.Text.{Utf8}
use denote.Shadow.{shadow}
use Rattle.std.specs.List.{slice_split}
use Rattle.scl_gnu.specs.Versions.{has_dot, is_space}
use Rattle.scl_gnu.proofs.clang.version.dotted_part.Given as goal

-- the part that is searched for is that of the rest
abbrev pub invariant-loop-part : goal.invariant-loop-part
invariant-loop-part l = shadow (Utf8 l.rest) × (find has_dot (slice_split is_space l.rest) ≡ find has_dot (slice_split is_space l.text))

abbrev pub decreases-loop-part : goal.decreases-loop-part
decreases-loop-part l = length l.rest
