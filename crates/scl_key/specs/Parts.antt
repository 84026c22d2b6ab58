-- The parts of a key, and their rows.
use Rattle.std.specs.Prelude.{ℕ, Bool, true, false, List, [], ◌∷◌, map, codes}
use Rattle.scl_text.specs.Records.{Artifact}
use Rattle.scl_description.specs.Rows.{Entry, row_entry, lone}
use Rattle.scl_description.specs.Records.{output_rest}
use Rattle.scl_key.specs.declared.part.Ask.{Ask}
use Rattle.scl_key.specs.declared.part.Ask.TheVariants as asks

-- what a cache hashes as it stands, or what it asks and hashes
pub data Part : Type 0 where
  -- a fact, with its name in front: it is hashed as it stands
  is : (row : List (List ℕ)) → Part
  -- a file that comes out: it is hashed as it stands
  output : (made : Artifact) → Part
  -- the name of the directory
  directory : Part
  -- the name by which the compiler is called, its bytes and those of its libraries
  compiler : Part
  -- what the compiler says by `-###` that it would run for these words, and the bytes of what it names there
  plan : (words : List (List ℕ)) → Part
  -- what is asked of a name: a variable, a path or a pattern
  asked : (ask : Ask) (name : List ℕ) → Part
  -- what the compiler writes for these words
  run : (words : List (List ℕ)) → Part
  -- the same, where a run before it failed
  run_else : (words : List (List ℕ)) → Part
  -- the precompiled headers that a search meets: pairs of what is said, `header`, `beside`, `folder` or `variable`, and a name
  pch : (searched : List (List ℕ)) → Part
  -- names and bytes of the files that the runs' line markers name, and of the input
  sources : Part
  -- their sizes and times
  times : Part

abbrev pub ask_name : Ask → List ℕ
ask_name asks.Env = codes "env"
ask_name asks.Unset = codes "unset"
ask_name asks.File = codes "file"
ask_name asks.Maybe = codes "maybe"
ask_name asks.Regular = codes "regular"
ask_name asks.SourcesIfShown = codes "sources-if-shown"
ask_name asks.RefuseIfShown = codes "refuse-if-shown"

-- ---- rows

-- the fields after the first of a part's row
abbrev pub fields : Part → List (List ℕ)
fields (is row) = codes "is" ∷ row
fields (output made) = codes "output" ∷ output_rest made
fields directory = lone (codes "directory")
fields compiler = lone (codes "compiler")
fields (plan words) = codes "plan" ∷ words
fields (asked ask name) = ask_name ask ∷ name ∷ []
fields (run words) = codes "run" ∷ words
fields (run_else words) = codes "run-else" ∷ words
fields (pch searched) = codes "pch" ∷ searched
fields sources = lone (codes "sources")
fields times = lone (codes "times")

-- the lines of parts: rows `key`
abbrev pub part_entry : Part → Entry
part_entry part = row_entry (codes "key") (fields part)

abbrev pub key_entries : List Part → List Entry
key_entries parts = map part_entry parts

-- ---- what is hashed of a row

-- the answer goes into the key too
abbrev pub is_asked : Part → Bool
is_asked (is row) = false
is_asked (output made) = false
is_asked directory = true
is_asked compiler = true
is_asked (plan words) = true
is_asked (asked ask name) = true
is_asked (run words) = true
is_asked (run_else words) = true
is_asked (pch searched) = true
is_asked sources = true
is_asked times = true

-- What a cache hashes of the row itself: all of it, but not the words by which it only says what to run or where to look.
abbrev pub hashed : Part → List (List ℕ)
hashed (is row) = fields (is row)
hashed (output made) = fields (output made)
hashed directory = fields directory
hashed compiler = fields compiler
hashed (plan words) = lone (codes "plan")
hashed (asked ask name) = fields (asked ask name)
hashed (run words) = lone (codes "run")
hashed (run_else words) = lone (codes "run-else")
hashed (pch searched) = lone (codes "pch")
hashed sources = fields sources
hashed times = fields times
