-- What is written is read back.
use Rattle.std.specs.Prelude.{◌≡◌, false, List, ◌++◌, ℕ}
use Rattle.std.specs.List.{list_any}
use Rattle.std.specs.Str.{bytes_eq}
use Rattle.scl_text.specs.Records.{Parsed}
use Rattle.scl_values.specs.Each.{Each}
use Rattle.scl_description.specs.Rows.{Entry, IsRow, rows_of, rows_in, rows_text, entries_text}
use Rattle.scl_description.specs.Records.{record_entries, record_names, description_of, record_in}

-- Rows that are written are read back.
abbrev pub RowsReadBack : Type 0
RowsReadBack = (rows : List (List (List ℕ))) → Each IsRow rows → rows_in (rows_text rows) ≡ rows

-- A record is read back from its lines.
abbrev pub DescriptionReadsBack : Type 0
DescriptionReadsBack = (p : Parsed) → Each IsRow (rows_of (record_entries p)) → record_in (description_of p) ≡ p

-- the entry does not belong to a record
abbrev pub IsBeside : Entry → Type 0
IsBeside e = list_any (bytes_eq e.name) record_names ≡ false

-- A record is read back also among rows with other names, before and after its lines.
abbrev pub DescriptionReadsBackAmong : Type 0
DescriptionReadsBackAmong = (before after : List Entry) (p : Parsed) → Each IsBeside before → Each IsBeside after → Each IsRow (rows_of (before ++ record_entries p ++ after))
    → record_in (entries_text (before ++ record_entries p ++ after)) ≡ p
