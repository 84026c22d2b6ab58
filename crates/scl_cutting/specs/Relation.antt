-- Cutting as a relation.
use Rattle.std.specs.Prelude.{◌≡◌, ℕ, Bool, List, [], ◌∷◌, Option, map}
use Rattle.scl_values.specs.declared.argument.ArgDisposition.{ArgDisposition}
use Rattle.scl_values.specs.Row.{Row}
use Rattle.scl_values.specs.Cuts.{Cut, raw, with_value, End, clean, whole, needs_value, ends_options, piece_of, last_piece}

-- the words are cut into the options: one case for each piece that the first word may be
pub data CutsInto {K : Type 0} (own : List ℕ → Option (Row K)) (dashes : Bool) : List (List ℕ) → List (Cut K) → End → Type 0 where
  nothing : CutsInto own dashes [] [] clean
  option : (word : List ℕ) (c : Cut K) (words : List (List ℕ)) (cs : List (Cut K)) (e : End) → piece_of own dashes word ≡ whole c → CutsInto own dashes words cs e → CutsInto own dashes (word ∷ words) (c ∷ cs) e
  option_and_value : (word value : List ℕ) (row : Row K) (d : ArgDisposition) (last : Option ArgDisposition) (words : List (List ℕ)) (cs : List (Cut K)) (e : End)
      → piece_of own dashes word ≡ needs_value row d last → CutsInto own dashes words cs e → CutsInto own dashes (word ∷ (value ∷ words)) (with_value row value d ∷ cs) e
  last_word : (word : List ℕ) (row : Row K) (d : ArgDisposition) (last : Option ArgDisposition) → piece_of own dashes word ≡ needs_value row d last
      → CutsInto own dashes (word ∷ []) (last_piece row last).options (last_piece row last).end
  ended : (word : List ℕ) (words : List (List ℕ)) → piece_of own dashes word ≡ ends_options → CutsInto own dashes (word ∷ words) (map raw (word ∷ words)) clean
