-- What an iterator over a list gives.
use Rattle.std.specs.Prelude.{◌≡◌, List, [], ◌∷◌, Option, None, Some}

-- a call gives the first item, if there is one, and the others are left
abbrev pub TakesFirst : {T : Type 0} → List T → Option T → List T → Type 0
TakesFirst items None left = (items ≡ []) × (left ≡ [])
TakesFirst items (Some item) left = items ≡ item ∷ left
