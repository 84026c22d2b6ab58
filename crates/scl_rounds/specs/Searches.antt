-- The folders in which a compiler says that it searches headers.
use Rattle.std.specs.Prelude.{ℕ, ◌&&◌, ◌||◌, not, is_some, nat_eq, cond, Bool, false, List, [], ◌++◌, codes, Option, None, Some}
use Rattle.std.specs.List.{flat_map, list_all, starts_with}
use Rattle.std.specs.Option.{option_to_list, unwrap_or}
use Rattle.scl_lookup.specs.Keys.{unfailed}
use Rattle.scl_lookup.specs.Questions.{Question, run, Written, Machine}
use Rattle.scl_readings.specs.Folders.{between, folders}
use Rattle.scl_readings.specs.Lines.{lines_after}
use Rattle.scl_readings.specs.Places.{has_word}

-- it is read, so its messages are in one language
abbrev pub asked_search : (words : List (List ℕ)) → Question
asked_search words = run (codes "C") words

-- A folder that is not there is ignored, and is searched when it comes to be there: a line says `ignoring nonexistent directory "P"`.
-- This is what stands there after its first byte.
abbrev pub ignored_in : (rest : List ℕ) → List (List ℕ)
ignored_in rest = cond (starts_with nat_eq rest (codes "gnoring ")) (option_to_list (between (codes "\"") (codes "\"") rest)) []

abbrev pub ignored : (messages : List ℕ) → List (List ℕ)
ignored messages = flat_map ignored_in (lines_after 0x69 messages)

-- the folders that messages name
abbrev pub folders_said : (messages : List ℕ) → List (List ℕ)
folders_said messages = unwrap_or (folders messages) [] ++ ignored messages

-- those that a run names; none, if it failed
abbrev pub folders_written : Option Written → List (List ℕ)
folders_written None = []
folders_written (Some it) = folders_said it.messages

abbrev pub folders_on : Machine → (words : List (List ℕ)) → List (List ℕ)
folders_on m words = folders_written (unfailed (m (asked_search words)))

-- those of all searches, in order
abbrev pub all_folders_on : Machine → (searches : List (List (List ℕ))) → List (List ℕ)
all_folders_on m searches = flat_map (folders_on m) searches

-- ---- whether these are all

-- in a framework, and by a map of headers, names are not those of files
abbrev pub has_other_names : (messages : List ℕ) → Bool
has_other_names messages = has_word (codes "(framework directory)") messages || has_word (codes "(headermap)") messages

abbrev pub names_all : Option Written → Bool
names_all None = false
names_all (Some it) = is_some (folders it.messages) && not (has_other_names it.messages)

abbrev pub are_all_named : Machine → (searches : List (List (List ℕ))) → Bool
are_all_named m searches = list_all (λ words. names_all (unfailed (m (asked_search words)))) searches
