-- What takes rows, one after the other.
use Rattle.std.specs.Prelude.{ℕ, List, ◌++◌}

-- from one state to the other it takes these rows too, whatever it had before
abbrev pub Adds : {T : Type 0} → (T → T → List (List (List ℕ)) → Type 0) → (old new : T) → List (List (List ℕ)) → Type 0
Adds {T} has old new rows = (start : T) (told : List (List (List ℕ))) → has start old told → has start new (told ++ rows)
