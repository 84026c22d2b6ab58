-- Rows: lines of fields, separated by one space. The first field says what the row is.
use Rattle.std.specs.Prelude.{ℕ, Bool, true, false, List, [], ◌∷◌, ◌++◌, map, Option, Some, None, ◌==◌, if◌then◌else◌}
use Rattle.std.specs.List.{flat_map, filter_map, onto_first}
use Rattle.std.specs.Option.{option_to_list}
use Rattle.std.specs.Str.{bytes_eq}
use Rattle.scl_files.specs.Characters.{space}
use Rattle.scl_values.specs.Escaped.{escaped}
use Rattle.scl_description.specs.Fields.{AreAllBytes, field_of}
use Rattle.scl_description.specs.Lines.{line, lines_of}

-- ---- written

-- fields, each after a space
abbrev pub fields_behind : List (List ℕ) → List ℕ
fields_behind fields = flat_map (λ field. space ∷ escaped field) fields

-- the text of a row, without its LF
abbrev pub row_text : List (List ℕ) → List ℕ
row_text [] = []
row_text (field ∷ fields) = escaped field ++ fields_behind fields

-- the lines of rows
abbrev pub rows_text : List (List (List ℕ)) → List ℕ
rows_text rows = flat_map (λ row. line (row_text row)) rows

-- ---- read

-- the parts between spaces
abbrev pub parts_of : List ℕ → List (List ℕ)
parts_of [] = [] ∷ []
parts_of (b ∷ bs) = if b == space then [] ∷ parts_of bs else onto_first b (parts_of bs)

abbrev pub first_and : Option (List ℕ) → Option (List (List ℕ)) → Option (List (List ℕ))
first_and (Some field) (Some fields) = Some (field ∷ fields)
first_and _ _ = None

abbrev pub all_fields : List (List ℕ) → Option (List (List ℕ))
all_fields [] = Some []
all_fields (text ∷ texts) = first_and (field_of text) (all_fields texts)

-- the fields of a line
abbrev pub row_of : List ℕ → Option (List (List ℕ))
row_of line = all_fields (parts_of line)

-- the rows of a text
abbrev pub rows_in : List ℕ → List (List (List ℕ))
rows_in text = filter_map row_of (lines_of text)

-- a row that can be written: it has a first field, and its fields are bytes
abbrev pub IsRow : List (List ℕ) → Type 0
IsRow [] = ⊥
IsRow (field ∷ fields) = AreAllBytes (field ∷ fields)

-- ---- rows of one name

-- a name, and what follows it in each of its rows
pub record Entry : Type 0 where
  pub name : List ℕ
  pub rests : List (List (List ℕ))

abbrev pub entry : List ℕ → List (List (List ℕ)) → Entry
entry name rests = record { name = name; rests = rests }

abbrev pub entry_rows : Entry → List (List (List ℕ))
entry_rows e = map (λ rest. e.name ∷ rest) e.rests

-- the rows of entries
abbrev pub rows_of : List Entry → List (List (List ℕ))
rows_of entries = flat_map entry_rows entries

-- the lines of an entry, and of entries
unfoldable pub entry_text : Entry → List ℕ
entry_text e = rows_text (entry_rows e)

abbrev pub entries_text : List Entry → List ℕ
entries_text entries = flat_map entry_text entries

-- what follows a row's first field, if that is the name
abbrev pub behind : List ℕ → List (List ℕ) → List (List (List ℕ))
behind name [] = []
behind name (field ∷ rest) = if bytes_eq field name then rest ∷ [] else []

-- what follows the name in each of its rows, in order
abbrev pub rests_at : List (List (List ℕ)) → List ℕ → List (List (List ℕ))
rests_at rows name = flat_map (behind name) rows

-- ---- forms of entries

abbrev pub lone : List ℕ → List (List ℕ)
lone word = word ∷ []

-- one row
abbrev pub row_entry : List ℕ → List (List ℕ) → Entry
row_entry name fields = entry name (fields ∷ [])

-- words, one in a row
abbrev pub words_entry : List ℕ → List (List ℕ) → Entry
words_entry name words = entry name (map lone words)

-- an optional word
abbrev pub maybe_entry : List ℕ → Option (List ℕ) → Entry
maybe_entry name word = words_entry name (option_to_list word)

-- true is a row with only the name, false is no row
abbrev pub yes_rests : Bool → List (List (List ℕ))
yes_rests true = [] ∷ []
yes_rests false = []

abbrev pub yes_entry : List ℕ → Bool → Entry
yes_entry name holds = entry name (yes_rests holds)

-- the name only
abbrev pub lone_entry : List ℕ → Entry
lone_entry name = yes_entry name true
