-- Tables, and the owner of a word in one table or in several.
use Rattle.std.specs.Prelude.{ℕ, Bool, true, cond, nat_lt, ◌&&◌, ◌||◌, not, false, List, [], ◌∷◌, length, filter, Option, None, Some}
use Rattle.std.specs.List.{flat_map}
use Rattle.std.specs.Ordering.{nat_cmp, is_lt}
use Rattle.std.specs.Cmp.Lexicographic.{slice_cmp}
use Rattle.scl_values.specs.Row.{Row, Shape, bare, apart, joined, either, fits}

-- whether a delimiter is an ASCII byte
abbrev pub is_ascii_or_none : Option ℕ → Bool
is_ascii_or_none None = true
is_ascii_or_none (Some d) = nat_lt d 128

abbrev pub has_ascii_delimiter : Shape → Bool
has_ascii_delimiter bare = true
has_ascii_delimiter apart = true
has_ascii_delimiter (joined d) = is_ascii_or_none d
has_ascii_delimiter (either d) = is_ascii_or_none d

-- whether the row that was found, if there is one, has an ASCII delimiter or none
abbrev pub finds_ascii_delimiter : {K : Type 0} → Option (Row K) → Bool
finds_ascii_delimiter None = true
finds_ascii_delimiter (Some row) = has_ascii_delimiter row.shape

-- whether the flag is less than the first row's, by bytes
abbrev pub comes_before : {K : Type 0} → List ℕ → List (Row K) → Bool
comes_before flag [] = true
comes_before flag (row ∷ rows) = is_lt (slice_cmp nat_cmp flag row.flag)

-- whether the flags rise strictly by bytes, and each delimiter is ASCII
abbrev pub is_table : {K : Type 0} → List (Row K) → Bool
is_table [] = true
is_table (row ∷ rows) = has_ascii_delimiter row.shape && comes_before row.flag rows && is_table rows

-- of two rows the one with the longer flag; of equally long flags the second
abbrev pub longer : {K : Type 0} → Option (Row K) → Option (Row K) → Option (Row K)
longer None other = other
longer (Some row) None = Some row
longer (Some row) (Some other) = cond (nat_lt (length other.flag) (length row.flag)) (Some row) (Some other)

-- the row with the longest flag
abbrev pub longest : {K : Type 0} → List (Row K) → Option (Row K)
longest [] = None
longest (row ∷ rows) = longer (Some row) (longest rows)

-- the owner of a word in a table: of the rows that fit the word, the one with the longest flag
abbrev pub owner : {K : Type 0} → List (Row K) → List ℕ → Option (Row K)
owner rows word = longest (filter (λ row. fits row word) rows)

-- the owner in several tables: the longest of the tables' owners; of equally long ones the last
abbrev pub owner_in : {K : Type 0} → List (List (Row K)) → List ℕ → Option (Row K)
owner_in [] word = None
owner_in (rows ∷ tables) word = longer (owner rows word) (owner_in tables word)

-- all rows of several tables, in one list
abbrev pub all_rows : {K : Type 0} → List (List (Row K)) → List (Row K)
all_rows tables = flat_map (λ rows. rows) tables

abbrev pub takes_value : Shape → Bool
takes_value bare = false
takes_value apart = true
takes_value (joined d) = true
takes_value (either d) = true

-- whether the rows that take a value have kinds that hold one
abbrev pub rows_hold_values : {K : Type 0} → (K → Bool) → List (Row K) → Bool
rows_hold_values holds [] = true
rows_hold_values holds (row ∷ rows) = (not (takes_value row.shape) || holds row.kind) && rows_hold_values holds rows

abbrev pub tables_hold_values : {K : Type 0} → (K → Bool) → List (List (Row K)) → Bool
tables_hold_values holds [] = true
tables_hold_values holds (rows ∷ tables) = rows_hold_values holds rows && tables_hold_values holds tables
