use Rattle.std.proofs.Common.{◌≡◌, ◌++◌, map, take}
use Rattle.std.specs.List.{flat_map}
use Rattle.scl_json.specs.Objects.{item_of}
use Rattle.scl_json.specs.Rests.{rests_of}
use Rattle.scl_json.specs.Texts.{behind_comma}
use Rattle.scl_json.proofs.value.push_items_behind.Given as goal

abbrev pub invariant-loop-rest : goal.invariant-loop-rest
invariant-loop-rest l =
    l.json.items ≡ l.fn.json.items ++ flat_map behind_comma (map (item_of l.form (map (λ name. name.now) l.names)) (rests_of (take l.rest-index l.rests)))
