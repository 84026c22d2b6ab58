-- Apple's clang, by the text of its version.
use Rattle.std.specs.Prelude.{ℕ, ◌||◌, Bool, false, List, [], ◌∷◌, codes, nat_eq, Option}
use Rattle.std.specs.List.{starts_with}
use Rattle.std.specs.Option.{option_map_or}

-- whether the word `Apple` stands somewhere in a text
abbrev pub holds_apple : List ℕ → Bool
holds_apple [] = false
holds_apple (byte ∷ bytes) = starts_with nat_eq (byte ∷ bytes) (codes "Apple") || holds_apple bytes

-- whether a version, if it is known, is that of Apple's clang
abbrev pub is_apple : Option (List ℕ) → Bool
is_apple version = option_map_or holds_apple version false
