use Rattle.std.proofs.Common.{◌≡◌, ◌++◌, map, take}
use Rattle.scl_description.specs.Rows.{fields_behind}
use Rattle.scl_description.proofs.taker.push_all_behind.Given as goal

abbrev pub invariant-loop-field : goal.invariant-loop-field
invariant-loop-field l = l.text.items ≡ l.initial.text.items ++ fields_behind (map (λ field. field.now) (take l.field-index l.fields))
