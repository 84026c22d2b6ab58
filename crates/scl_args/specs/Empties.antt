-- Empty values of either rows, and the refusal of them.
use Rattle.std.specs.Prelude.{ℕ, Bool, true, false, cond, ◌&&◌, List, [], ◌∷◌, Option, None, Some}
use Rattle.scl_values.specs.declared.argument.ArgDisposition.{ArgDisposition}
use Rattle.scl_values.specs.declared.argument.ArgDisposition.TheVariants as how
use Rattle.scl_values.specs.Row.{Row, Shape, bare, apart, joined, either}
use Rattle.scl_values.specs.Seen.{Seen, Raw, Unknown, Known}

abbrev pub is_either : Shape → Bool
is_either bare = false
is_either apart = false
is_either (joined d) = false
is_either (either d) = true

-- whether a row was found, and its shape is either
abbrev pub finds_either : {K : Type 0} → Option (Row K) → Bool
finds_either None = false
finds_either (Some row) = is_either row.shape

abbrev pub is_empty : List ℕ → Bool
is_empty [] = true
is_empty (byte ∷ bytes) = false

-- whether an empty value with this disposition belongs to an either row; `own` gives a word's owner. If the value is joined
-- without a delimiter, the owner of its flag decides
abbrev pub stands_either : {K : Type 0} → (List ℕ → Option (Row K)) → List ℕ → ArgDisposition → Bool
stands_either own flag how.Separated = false
stands_either own flag (how.CanBeConcatenated d) = true
stands_either own flag (how.CanBeSeparated d) = true
stands_either own flag (how.Concatenated None) = finds_either (own flag)
stands_either own flag (how.Concatenated (Some d)) = false

-- whether the option's row has an either shape and its value is empty
abbrev pub has_empty_value : {K : Type 0} → (List ℕ → Option (Row K)) → Seen K → Bool
has_empty_value own (Raw w) = false
has_empty_value own (Unknown w) = false
has_empty_value own (Known f k v None) = false
has_empty_value own (Known f k v (Some h)) = is_empty v && stands_either own f h

-- an empty value of an either row is refused before any other test
abbrev pub refusing_empty : {K V : Type 0} → (List ℕ → Option (Row K)) → V → (List (Seen K) → Seen K → Option V) → List (Seen K) → Seen K → Option V
refusing_empty own empty verdict before o = cond (has_empty_value own o) (Some empty) (verdict before o)
