use Rattle.std.proofs.Common.{◌≡◌, ◌+◌, ◌≤◌, length, map}
use Rattle.scl_description.specs.Lines.{lines_of}
use Rattle.scl_cl.specs.Drafts.{gathered_by}
use Rattle.scl_cl.specs.Requests.{naming}
use Rattle.scl_cl.proofs.RequestLaws.{Passed}
use Rattle.scl_cl.proofs.request.read_lines.Given as goal

abbrev pub invariant-loop-line : goal.invariant-loop-line
invariant-loop-line g l =
    let kept = map g.T.TakesLines.left in
    record {
      passed : Passed l.first (naming l.fn.compiler) (kept (lines_of l.bytes)) (kept (lines_of l.left)) l.number (gathered_by l.draft);
      shown : g.T.TakesLines.made l.taker (lines_of l.left) ≡ g.T.TakesLines.made l.fn.taker (lines_of l.bytes);
      counted : l.number + length l.left ≤ length l.bytes + l.first;
    }

abbrev pub decreases-loop-line : goal.decreases-loop-line
decreases-loop-line g l = length l.left
