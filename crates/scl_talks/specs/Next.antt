-- What a caller is told to do next.
use Rattle.std.specs.Prelude.{ℕ, Bool, true, false, List, [], ◌∷◌, ◌++◌, map, codes, None, Some, if◌then◌else◌}
use Rattle.std.specs.Fmt.{decimal}
use Rattle.std.specs.List.{list_any}
use Rattle.scl_delivered.specs.Delivered.{Delivered}
use Rattle.scl_describe.specs.Keepings.{Kept, nothing, under_key, unknown, under_none}
use Rattle.scl_description.specs.Rows.{Entry, entries_text, entry, lone, row_entry}
use Rattle.scl_key.specs.Parts.{Part, is, output, directory, compiler, plan, asked, run as run_part, run_else, pch, sources, times as times_part}
use Rattle.scl_lookup.specs.Questions.{Question, env, program, file, bytes, names, real, times, run}
use Rattle.scl_questions.specs.Answers.{Reply}
use Rattle.scl_questions.specs.Talks.{Said, looks_up, ends, refuses, said}
use Rattle.scl_rounds.specs.Answers.{Outcome, outcome_on}
use Rattle.scl_rounds.specs.Keys.{Key}
use Rattle.scl_rounds.specs.Rounds.{rounds}
use Rattle.scl_talks.specs.Names.{first_name, name_of}

-- ---- the key

-- a key at the directory of the compiler
abbrev pub key_at : List ℕ → Delivered → Key
key_at place key = record { place = place; parts = key.parts; direct = key.direct }

-- ---- rows

-- the fields of a question
abbrev pub fields_of : Question → List (List ℕ)
fields_of (env name) = codes "env" ∷ name ∷ []
fields_of (program name) = codes "program" ∷ name ∷ []
fields_of (file path) = codes "file" ∷ path ∷ []
fields_of (bytes path) = codes "bytes" ∷ path ∷ []
fields_of (names path) = codes "names" ∷ path ∷ []
fields_of (real path) = codes "real" ∷ path ∷ []
fields_of (times path) = codes "times" ∷ path ∷ []
fields_of (run language words) = codes "run" ∷ language ∷ words

abbrev pub asked_entry : List Question → Entry
asked_entry questions = entry (codes "ask") (map fields_of questions)

-- the given words are run, for this reason, and nothing is kept
abbrev pub given_entry : List ℕ → Entry
given_entry why = row_entry (codes "given") (lone why)

-- an answer is refused, by its number
abbrev pub refused_entry : ℕ → Entry
refused_entry number = row_entry (codes "refused") (lone (decimal number))

-- that the answers may stand for the runs
abbrev pub listed_entries : Bool → List Entry
listed_entries is_listed = if is_listed then row_entry (codes "listed") [] ∷ [] else []

abbrev pub found_entries : Outcome → List Entry
found_entries it = row_entry (codes "name") (lone (name_of it.rows)) ∷ listed_entries it.is_listed

-- what is looked up next; the name of what is kept; that by the answers nothing may be kept; which answer is refused
abbrev pub next_entries : Said Outcome → List Entry
next_entries (looks_up questions) = asked_entry questions ∷ []
next_entries (ends (Some outcome)) = found_entries outcome
next_entries (ends None) = given_entry (codes "forbidden") ∷ []
next_entries (refuses number) = refused_entry number ∷ []

-- after these answers of a lookup of a key
abbrev pub key_entries : Key → List Reply → List Entry
key_entries key replies = next_entries (said (outcome_on key) (rounds key) [] replies)

-- a compiler that tells no plan may read what no part names
abbrev pub is_plan : Part → Bool
is_plan (is row) = false
is_plan (output made) = false
is_plan directory = false
is_plan compiler = false
is_plan (plan words) = true
is_plan (asked ask name) = false
is_plan (run_part words) = false
is_plan (run_else words) = false
is_plan (pch searched) = false
is_plan sources = false
is_plan times_part = false

abbrev pub planned_entries : List ℕ → List Reply → Delivered → List Entry
planned_entries place replies key = if list_any is_plan key.parts then key_entries (key_at place key) replies else given_entry (codes "no-plan") ∷ []

-- nothing is looked up where there is no key
abbrev pub kept_entries : List ℕ → List Reply → Kept → List Entry
kept_entries place replies nothing = []
kept_entries place replies (under_key key) = planned_entries place replies key
kept_entries place replies (unknown word) = []
kept_entries place replies (under_none why) = []

-- ---- before all answers

-- where lists of answers may stand
abbrev pub first_entry : (place described : List ℕ) → Entry
first_entry place described = row_entry (codes "first") (lone (first_name place described))

abbrev pub first_entries : (place described : List ℕ) → Kept → List Entry
first_entries place described nothing = []
first_entries place described (under_key key) = first_entry place described ∷ []
first_entries place described (unknown word) = []
first_entries place described (under_none why) = []

abbrev pub begun_entries : (place described : List ℕ) → List Reply → Kept → List Entry
begun_entries place described [] kept = first_entries place described kept
begun_entries place described (reply ∷ replies) kept = []

-- ---- all of it

-- behind a description
abbrev pub looked : (place : List ℕ) → List Reply → (described : List ℕ) → Kept → List ℕ
looked place replies described kept = described ++ entries_text (begun_entries place described replies kept) ++ entries_text (kept_entries place replies kept)
