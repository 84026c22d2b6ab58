-- Which release answers, by the rules of which sccache.
use Rattle.std.specs.Prelude.{ℕ, List, [], ◌∷◌, codes, Result, Ok, Err}
use Rattle.scl_describe.specs.Descriptions.{version_entry}
use Rattle.scl_description.specs.Rows.{Entry, entries_text, lone, row_entry}
use Rattle.scl_talks.specs.Names.{release, sccache_rules}

abbrev pub made_by_entries : List Entry
made_by_entries = row_entry (codes "made-by") (lone release) ∷ row_entry (codes "rules") (lone sccache_rules) ∷ version_entry ∷ []

-- what is answered to the lines after the first one: there may be none
abbrev pub made_by : List (List ℕ) → Result (List ℕ) ℕ
made_by [] = Ok (entries_text made_by_entries)
made_by (line ∷ lines) = Err 2
