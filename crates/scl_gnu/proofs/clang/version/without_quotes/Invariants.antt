use Rattle.std.proofs.Common.{◌≡◌, length}
use denote.Text.{Utf8}
use denote.Shadow.{shadow}
use Rattle.scl_gnu.specs.Versions.{without_quotes}
use Rattle.scl_gnu.proofs.clang.version.without_quotes.Given as goal

-- the final text is that of the text kept so far
abbrev pub invariant-loop-shorter : goal.invariant-loop-shorter
invariant-loop-shorter l = shadow (Utf8 l.kept) × (without_quotes l.kept ≡ without_quotes l.text)

abbrev pub decreases-loop-shorter : goal.decreases-loop-shorter
decreases-loop-shorter l = length l.kept
