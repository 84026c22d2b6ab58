-- What iterators of words and of texts still give.
use Rattle.std.specs.Prelude.{◌≡◌, ℕ, ◌+◌, List, [], ◌∷◌, length, Bool, true, false, cond, Option, None, Some, Result, Ok, Err, Vec}
use Rattle.std.specs.declared.alloc.AllocError.{AllocError}
use Rattle.std.specs.Prelude.{String}
use Rattle.std.specs.String.{string_bytes}
use Rattle.std.specs.Iterator.{Count, at_most}
use Rattle.std.specs.declared.alloc.Global.{Global}

-- what an iterator of words still gives, unless it has ended
pub record WordsToCome : Type 0 where
  pub words : List (List ℕ)
  pub ended : Bool

-- an error may come when no word is left
abbrev pub items_left : WordsToCome → Count
items_left s = at_most (cond s.ended 0 (1 + length s.words))

-- a call gave the first word; or an error, which ends the iterator; or it reached the end
abbrev pub Gives : {A : Type 0} → (A → List ℕ) → WordsToCome → Option (Result A AllocError) → WordsToCome → Type 0
Gives bytes_of s None t = (t.ended ≡ true) × (s.ended ≡ false → s.words ≡ [])
Gives bytes_of s (Some (Ok word)) t = (s.ended ≡ false) × (t.ended ≡ false) × (s.words ≡ bytes_of word ∷ t.words)
Gives bytes_of s (Some (Err e)) t = (s.ended ≡ false) × (t.ended ≡ true)

abbrev pub GivesWord : WordsToCome → Option (Result (Vec ℕ Global) AllocError) → WordsToCome → Type 0
GivesWord = Gives (λ word. word.items)

abbrev pub GivesText : WordsToCome → Option (Result (String Global) AllocError) → WordsToCome → Type 0
GivesText = Gives string_bytes
