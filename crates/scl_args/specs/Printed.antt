-- Options and the words that they were cut from.
use Rattle.std.specs.Prelude.{◌≡◌, ℕ, List, [], ◌∷◌, ◌++◌, Option, None, Some}
use Rattle.scl_values.specs.declared.argument.ArgDisposition.{ArgDisposition}
use Rattle.scl_values.specs.declared.argument.ArgDisposition.TheVariants as how
use Rattle.scl_values.specs.Row.{Row}
use Rattle.scl_values.specs.Cuts.{Cut, with_value, End, clean, dangling}
use Rattle.scl_values.specs.Seen.{shown}
use Rattle.scl_values.specs.Spell.{spelled}

-- the delimiter of a value in its flag's word
abbrev pub delimiter_of : ArgDisposition → Option ℕ
delimiter_of how.Separated = None
delimiter_of (how.CanBeConcatenated d) = None
delimiter_of (how.CanBeSeparated d) = d
delimiter_of (how.Concatenated d) = d

-- the option was cut from these words: those that it prints, or its flag and a delimiter with nothing after it, which it does
-- not print
pub data CutFrom {K : Type 0} (c : Cut K) (words : List (List ℕ)) : Type 0 where
  as_printed : words ≡ spelled (shown c) → CutFrom c words
  with_delimiter : (row : Row K) (d : ℕ) (h : ArgDisposition) → c ≡ with_value row [] h → delimiter_of h ≡ Some d → words ≡ (row.flag ++ d ∷ []) ∷ [] → CutFrom c words

-- the words are those that the options were cut from, in order, and then those that are left
abbrev pub AllCutFrom : {K : Type 0} → List (Cut K) → List (List ℕ) → List (List ℕ) → Type 0
AllCutFrom [] words left = words ≡ left
AllCutFrom (c ∷ cs) words left = (first : List (List ℕ)) × (others : List (List ℕ)) × (words ≡ first ++ others) × CutFrom c first × AllCutFrom cs others left

-- nothing is left at a clean end; at a dangling end the flag without its value is left
abbrev pub IsLeftAt : {K : Type 0} → (List ℕ → Option (Row K)) → End → List (List ℕ) → Type 0
IsLeftAt own clean left = left ≡ []
IsLeftAt {K = K} own dangling left = (row : Row K) × (own row.flag ≡ Some row) × (left ≡ row.flag ∷ [])
