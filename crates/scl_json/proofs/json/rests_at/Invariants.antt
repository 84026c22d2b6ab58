use Rattle.std.proofs.Common.{◌≡◌, take}
use Rattle.scl_text.specs.Runs.{runs_of}
use Rattle.scl_description.specs.Rows.{rests_at}
use Rattle.scl_json.specs.Rests.{rests_of}
use Rattle.scl_json.proofs.json.rests_at.Given as goal

abbrev pub invariant-loop-row : goal.invariant-loop-row
invariant-loop-row l = rests_of l.rests.items ≡ rests_at (runs_of (take l.row-index l.rows)) l.name
