use Rattle.std.proofs.Common.{◌≡◌, ◌++◌, map, drop}
use Rattle.std.specs.List.{flat_map}
use Rattle.scl_values.specs.Words.{words_of}
use Rattle.scl_json.specs.Objects.{members_by}
use Rattle.scl_json.specs.Texts.{behind_comma}
use Rattle.scl_json.proofs.value.push_fields_behind.Given as goal

abbrev pub invariant-loop-name : goal.invariant-loop-name
invariant-loop-name l =
    l.json.items ++ flat_map behind_comma (members_by (map (λ name. name.now) (drop l.name-index l.names)) (words_of l.left))
    ≡ l.fn.json.items ++ flat_map behind_comma (members_by (map (λ name. name.now) l.names) (words_of l.words))
