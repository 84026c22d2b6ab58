-- The rows of a description that say what became of each option of a command line.
use Rattle.std.specs.Prelude.{ℕ, List, [], ◌∷◌, ◌++◌, length, map, codes, Option, None, Some}
use Rattle.std.specs.Fmt.{decimal}
use Rattle.std.specs.Option.{option_map}
use Rattle.scl_description.specs.Rows.{Entry, entry, maybe_entry}
use Rattle.scl_rows.specs.Names.{name_of, origin_name}
use Rattle.scl_rows.specs.Rows.{Told, told}
use Rattle.scl_rows.specs.declared.row.Row.{Row}

-- a dash where there is nothing
abbrev pub nothing : List ℕ
nothing = codes "-"

-- the field of a number that there may be
abbrev pub number_field : Option ℕ → List ℕ
number_field None = nothing
number_field (Some n) = decimal n

-- the field of bytes that there may be, which may be any: they follow an equals sign
abbrev pub bytes_field : Option (List ℕ) → List ℕ
bytes_field None = nothing
bytes_field (Some bytes) = codes "=" ++ bytes

-- where an option comes from and goes, the given word that brought it, and its kind's name
abbrev pub place_fields : Told → List (List ℕ)
place_fields row = origin_name row.origin ∷ name_of row.destination ∷ number_field row.at ∷ row.kind ∷ []

-- its flag, its value, and how many words were given
abbrev pub flag_fields : Told → List (List ℕ)
flag_fields row = bytes_field row.flag ∷ bytes_field row.value ∷ decimal (length row.given) ∷ []

-- what stands in the row of an option: after those its words as given, and then those in the list that it goes to
abbrev pub option_fields : Told → List (List ℕ)
option_fields row = place_fields row ++ flag_fields row ++ row.given ++ row.printed

abbrev pub options_entry : List Told → Entry
options_entry rows = entry (codes "option") (map option_fields rows)

-- an index that there may be
abbrev pub index_entry : List ℕ → Option ℕ → Entry
index_entry name index = maybe_entry name (option_map decimal index)

-- ---- of rows that the code gives

abbrev pub fields_given : Row → List (List ℕ)
fields_given row = option_fields (told row)

abbrev pub options_given : List Row → Entry
options_given rows = entry (codes "option") (map fields_given rows)
