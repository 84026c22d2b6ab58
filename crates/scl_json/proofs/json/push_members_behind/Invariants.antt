use Rattle.std.proofs.Common.{◌≡◌, ◌++◌, map, take}
use Rattle.std.specs.List.{flat_map}
use Rattle.scl_values.specs.Words.{words_of}
use Rattle.scl_text.specs.Runs.{runs_of}
use Rattle.scl_json.specs.Objects.{entry_at, member_of}
use Rattle.scl_json.specs.Texts.{behind_comma}
use Rattle.scl_json.proofs.json.push_members_behind.Given as goal

abbrev pub invariant-loop-name : goal.invariant-loop-name
invariant-loop-name l =
    l.json.items ≡ l.fn.json.items ++ flat_map behind_comma (map member_of (map (entry_at (runs_of l.rows)) (words_of (take l.name-index l.names))))
