-- What is told, with its base directories put back.
use Rattle.std.specs.Prelude.{ℕ, ◌==◌, cond, List, [], ◌∷◌, ◌++◌, drop, slice_index_or}
use Rattle.std.specs.Str.Parse.{digits_value}

-- where a reader is: outside, after a NUL, or in the name of a base, with what it has of that
pub data At : Type 0 where
  outside : At
  behind_nul : At
  in_name : List ℕ → At

-- the directory that a name of a base stands for; empty if there is none
abbrev pub dir_named : List (List ℕ) → List ℕ → List ℕ
dir_named dirs name = slice_index_or dirs (digits_value 10 (drop 5 name)) []

abbrev pub unmapped_from : List (List ℕ) → At → List ℕ → List ℕ
unmapped_from dirs at [] = []
unmapped_from dirs outside (byte ∷ told) = cond (byte == 0) (unmapped_from dirs behind_nul told) (byte ∷ unmapped_from dirs outside told)
unmapped_from dirs behind_nul (byte ∷ told) = cond (byte == 0) (0 ∷ unmapped_from dirs outside told) (unmapped_from dirs (in_name (byte ∷ [])) told)
unmapped_from dirs (in_name name) (byte ∷ told) = cond (byte == 0x3e) (dir_named dirs name ++ unmapped_from dirs outside told) (unmapped_from dirs (in_name (name ++ byte ∷ [])) told)

abbrev pub unmapped : List (List ℕ) → List ℕ → List ℕ
unmapped dirs told = unmapped_from dirs outside told
