-- Pieces written one after the other, each after its length, so that none runs into the next.
use Rattle.std.specs.Prelude.{◌≡◌, ℕ, ◌<◌, ◌^◌, List, ◌∷◌, ◌++◌, length}
use Rattle.std.specs.List.{flat_map}
use Rattle.std.specs.Fmt.{decimal}
use Rattle.scl_values.specs.Each.{Each}

-- a piece after its length and a colon
abbrev pub framed_one : List ℕ → List ℕ
framed_one piece = decimal (length piece) ++ 58 ∷ piece

abbrev pub framed : List (List ℕ) → List ℕ
framed pieces = flat_map framed_one pieces

-- each has a length that a machine can count
abbrev pub AreShort : List (List ℕ) → Type 0
AreShort pieces = Each (λ piece. length piece < 2 ^ 64) pieces

-- Framed texts are one only if all their pieces are.
abbrev pub FramingDecides : Type 0
FramingDecides = (a b : List (List ℕ)) → AreShort a → AreShort b → framed a ≡ framed b → a ≡ b
