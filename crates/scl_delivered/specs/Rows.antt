-- The rows of a key as it is delivered.
use Rattle.std.specs.Prelude.{ℕ, List, [], ◌∷◌, ◌++◌, map, codes, Option, Some, None, if◌then◌else◌}
use Rattle.scl_description.specs.Rows.{Entry, lone, row_entry}
use Rattle.scl_key.specs.Directs.{direct_entries}
use Rattle.scl_key.specs.Parts.{Part, key_entries}
use Rattle.scl_shared_key.specs.declared.said.InObject.{InObject}
use Rattle.scl_shared_key.specs.Verdicts.{Verdict, in_object_name}
use Rattle.scl_delivered.specs.Delivered.{Delivered, is_told_by_bases, names_none}

-- In front: names in answers are told by the bases.
abbrev pub first_entry : Entry
first_entry = row_entry (codes "key") (lone (codes "bases"))

-- At the end: where the bases belong in the key nevertheless. A compiler maps a path that begins as a base does and is not below it, a
-- text names what no word says, or a plan has options that nobody gave.
unfoldable pub nevertheless : Verdict → List Entry
nevertheless said =
    row_entry (codes "key") (lone (codes "bases-if-beside"))
    ∷ row_entry (codes "key") (codes "bases-if-shown" ∷ said.shown ∷ [])
    ∷ row_entry (codes "key") (codes "bases-if-planned" ∷ said.planned ∷ [])
    ∷ []

-- a key that is told by bases
unfoldable pub told_entries : Verdict → List Part → List Entry
told_entries said parts = first_entry ∷ key_entries parts ++ nevertheless said

-- the key, if it is told by bases
abbrev pub entries_if_told : Verdict → List Part → List Entry
entries_if_told said parts = if names_none said.in_object then told_entries said parts else []

abbrev pub in_object_entry : InObject → Entry
in_object_entry in_object = row_entry (codes "directory-in-object") (lone (in_object_name in_object))

-- what is said of the object, and after it such a key
abbrev pub verdict_entries : Option Verdict → List Part → List Entry
verdict_entries None parts = []
verdict_entries (Some said) parts = in_object_entry said.in_object ∷ entries_if_told said parts

-- of a macro that the runs show, the row that a cache hashes only if a source can name the macro
abbrev pub shown_entry : List ℕ → Entry
shown_entry word = row_entry (codes "key") (codes "shown" ∷ word ∷ [])

abbrev pub shown_entries : List (List ℕ) → List Entry
shown_entries words = map shown_entry words

-- ---- where they stand

-- before the rows of options: a key that is not told by bases
abbrev pub rows_of : Delivered → List Entry
rows_of d = if is_told_by_bases d then [] else key_entries d.parts ++ direct_entries d.direct

-- at the end of a description
abbrev pub last_rows_of : Delivered → List Entry
last_rows_of d = verdict_entries d.verdict d.parts ++ shown_entries d.shown
