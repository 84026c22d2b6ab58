-- What an answer adds to a row of what is hashed; nothing where nothing may be kept.
use Rattle.std.specs.Prelude.{ℕ, ◌==◌, is_some, cond, List, [], ◌∷◌, Option, None, Some}
use Rattle.std.specs.List.{slice_split}
use Rattle.std.specs.Option.{option_map}
use Rattle.scl_lookup.specs.Keys.{Field, said, summed, value_field, standing_field}
use Rattle.scl_lookup.specs.Questions.{Standing, regular, folder, special, missing, Program}

-- the value of a variable, or that it is not set
abbrev pub value_told : Option (List ℕ) → List Field
value_told value = value_field value ∷ []

-- that a variable is not set
abbrev pub unset_told : Option (List ℕ) → Option (List Field)
unset_told value = cond (is_some value) None (Some [])

-- the bytes of a file, which is there
abbrev pub file_told : Standing → Option (List Field)
file_told (regular sum) = Some (summed sum ∷ [])
file_told folder = None
file_told special = None
file_told missing = None

-- the bytes of a file, or that there is a folder, or nothing
abbrev pub maybe_told : Standing → Option (List Field)
maybe_told standing = option_map (λ field. field ∷ []) (standing_field standing)

-- that there is nothing but a file, if anything
abbrev pub regular_told : Standing → Option (List Field)
regular_told (regular sum) = Some []
regular_told folder = None
regular_told special = None
regular_told missing = Some []

-- what follows the last `/` of a path
abbrev pub last_part : List ℕ → List ℕ → List ℕ
last_part last [] = last
last_part last (byte ∷ path) = cond (byte == 0x2f) (last_part path path) (last_part last path)

abbrev pub base_name : List ℕ → List ℕ
base_name path = last_part path path

abbrev pub called : List (List ℕ) → List ℕ
called [] = []
called (name ∷ links) = base_name name

-- the name by which a program is called, and the sum
abbrev pub program_told : Option Program → Option (List Field)
program_told program = option_map (λ it. said (called it.links) ∷ summed it.sum ∷ []) program
