-- What values are made from, by what they hold: nothing, a word or a path.
use Rattle.std.specs.Prelude.{ℕ, Bool, true, false, List, []}

-- a value's kind, the word that it prints, and whether that is a path
pub record Content (K : Type 0) : Type 0 where
  pub kind : K
  pub word : List ℕ
  pub is_path : Bool

abbrev pub nothing : {K : Type 0} → K → Content K
nothing kind = record { kind = kind; word = []; is_path = false }

abbrev pub word : {K : Type 0} → K → List ℕ → Content K
word kind held = record { kind = kind; word = held; is_path = false }

abbrev pub path : {K : Type 0} → K → List ℕ → Content K
path kind held = record { kind = kind; word = held; is_path = true }
