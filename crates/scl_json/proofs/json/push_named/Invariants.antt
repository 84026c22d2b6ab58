use Rattle.std.proofs.Common.{◌≡◌, ◌++◌, map, take}
use Rattle.scl_values.specs.Words.{words_of}
use Rattle.scl_text.specs.Runs.{runs_of}
use Rattle.scl_description.specs.Records.{first_field}
use Rattle.scl_json.proofs.json.push_named.Given as goal

abbrev pub invariant-loop-row : goal.invariant-loop-row
invariant-loop-row l = words_of l.names.items ≡ words_of l.fn.names.items ++ map first_field (runs_of (take l.row-index l.rows))
