-- What words are read as: options without the dispositions of their values.
use Rattle.std.specs.Prelude.{◌≡◌, ℕ, Bool, List, ◌++◌, map, Option}
use Rattle.scl_values.specs.Row.{Row}
use Rattle.scl_values.specs.Cuts.{End, clean, Cutting, cut}
use Rattle.scl_values.specs.Seen.{Plain, plain}

-- what words are cut into, without the dispositions of values
pub record Read (K : Type 0) : Type 0 where
  pub options : List (Plain K)
  pub end : End

abbrev pub plainly : {K : Type 0} → Cutting K → Read K
plainly c = record { options = map plain c.options; end = c.end }

abbrev pub read : {K : Type 0} → (List ℕ → Option (Row K)) → Bool → List (List ℕ) → Read K
read own dashes words = plainly (cut own dashes words)

-- the options at a clean end
abbrev pub cleanly : {K : Type 0} → List (Plain K) → Read K
cleanly options = record { options = options; end = clean }

-- the options before the others
abbrev pub behind : {K : Type 0} → List (Plain K) → Read K → Read K
behind first others = record { options = first ++ others.options; end = others.end }

-- the words are read as the options first, whatever words follow
pub record Reads {K : Type 0} (own : List ℕ → Option (Row K)) (dashes : Bool) (words : List (List ℕ)) (options : List (Plain K)) : Type 0 where
  pub before : (rest : List (List ℕ)) → read own dashes (words ++ rest) ≡ behind options (read own dashes rest)
