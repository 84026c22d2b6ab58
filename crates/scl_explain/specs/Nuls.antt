-- Words that no process can be given.
use Rattle.std.specs.Prelude.{◌≡◌, ℕ, ◌==◌, Bool, false, List, [], ◌∷◌, ◌++◌}
use Rattle.std.specs.List.{list_any}

-- a NUL ends a word where a process begins
abbrev pub holds_nul : List ℕ → Bool
holds_nul word = list_any (λ byte. byte == 0) word

abbrev pub some_hold_nul : List (List ℕ) → Bool
some_hold_nul words = list_any holds_nul words

-- a text is these words, each ended by a NUL, as `xargs -0` reads it
pub data AreEndedByNul : List ℕ → List (List ℕ) → Type 0 where
  none : AreEndedByNul [] []
  one : (word text : List ℕ) (words : List (List ℕ)) → holds_nul word ≡ false → AreEndedByNul text words → AreEndedByNul (word ++ 0 ∷ text) (word ∷ words)
