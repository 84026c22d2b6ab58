use Rattle.std.proofs.Common.{◌≡◌, ◌∷◌, take, map}
use Rattle.scl_values.specs.Words.{words_of}
use Rattle.scl_description.proofs.list.row_with.Given as goal

abbrev pub invariant-loop-field : goal.invariant-loop-field
invariant-loop-field l = words_of l.row.items ≡ l.name ∷ map (λ v. v.now) (take l.field-index l.fields)
