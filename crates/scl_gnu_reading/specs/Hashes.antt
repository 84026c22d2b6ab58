-- Files on whose contents the result depends, as options name them, for any compiler's kinds.
use Rattle.std.specs.Prelude.{ℕ, List, Option, None}
use Rattle.std.specs.List.{filter_map}
use Rattle.std.specs.Option.{option_map}
use Rattle.scl_values.specs.Seen.{Seen, Raw, Unknown, Known}
use Rattle.scl_gnu_reading.specs.declared.gcc.hash_files.HashRole.{HashRole}

-- such a file: how it is named, and the text
pub record Hashed : Type 0 where
  pub role : HashRole
  pub text : List ℕ

abbrev pub named_by : List ℕ → HashRole → Hashed
named_by text role = record { role = role; text = text }

-- the file that an option names, if its kind has a role
abbrev pub hashed_by : {K : Type 0} → (K → Option HashRole) → Seen K → Option Hashed
hashed_by role (Raw w) = None
hashed_by role (Unknown w) = None
hashed_by role (Known f k v how) = option_map (named_by v) (role k)

-- the files that the options name, in order
abbrev pub hashed_as : {K : Type 0} → (K → Option HashRole) → List (Seen K) → List Hashed
hashed_as role os = filter_map (hashed_by role) os
