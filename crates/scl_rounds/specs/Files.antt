-- What a machine says of the files that texts name.
use Rattle.std.specs.Prelude.{ℕ, Bool, true, false, List, [], ◌∷◌, map, Option, None, Some}
use Rattle.std.specs.List.{flat_map, list_any}
use Rattle.std.specs.Option.{option_map}
use Rattle.scl_lookup.specs.Keys.{Row, said, all_there}
use Rattle.scl_lookup.specs.Questions.{Standing, regular, folder, special, missing, file, times, Machine}
use Rattle.scl_questions.specs.Told.{maybe_told}
use Rattle.scl_rounds.specs.declared.file.Flaw.{Flaw}
use Rattle.scl_rounds.specs.declared.file.Flaw.TheVariants as flaws

-- rows as one
abbrev pub in_one : List Row → Row
in_one rows = flat_map (λ row. row) rows

-- ---- bytes

-- a name, and the bytes of its file, or that there is a folder or nothing; none: there is what is no file
abbrev pub file_row : Machine → List ℕ → Option Row
file_row m name = option_map (λ answer. said name ∷ answer) (maybe_told (m (file name)))

abbrev pub files_told : Machine → List (List ℕ) → Option Row
files_told m names = option_map in_one (all_there (map (file_row m) names))

-- ---- sizes and times

abbrev pub is_regular : Standing → Bool
is_regular (regular sum) = true
is_regular folder = false
is_regular special = false
is_regular missing = false

-- a name, and size and time of its file; nothing of a folder, or where there is nothing
abbrev pub times_by : Machine → List ℕ → Standing → Option Row
times_by m name (regular sum) = Some (said name ∷ said (m (times name)) ∷ [])
times_by m name folder = Some []
times_by m name special = None
times_by m name missing = Some []

abbrev pub times_row : Machine → List ℕ → Option Row
times_row m name = times_by m name (m (file name))

abbrev pub times_told : Machine → List (List ℕ) → Option Row
times_told m names = option_map in_one (all_there (map (times_row m) names))

-- ---- what can be read once only, or no more

abbrev pub has_flaw : Flaw → Standing → Bool
has_flaw flaws.Special (regular sum) = false
has_flaw flaws.Special folder = false
has_flaw flaws.Special special = true
has_flaw flaws.Special missing = false
has_flaw flaws.Gone (regular sum) = false
has_flaw flaws.Gone folder = false
has_flaw flaws.Gone special = false
has_flaw flaws.Gone missing = true

abbrev pub any_flawed : Flaw → Machine → List (List ℕ) → Bool
any_flawed flaw m names = list_any (λ name. has_flaw flaw (m (file name))) names
