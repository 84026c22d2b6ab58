-- What is said of keeping what a command line makes.
use Rattle.std.specs.Prelude.{ℕ, Bool, true, false, nat_eq, List, [], ◌∷◌, ◌++◌, codes, find, map, Option, None, Some, if◌then◌else◌}
use Rattle.std.specs.List.{list_any, starts_with}
use Rattle.std.specs.Option.{option_map}
use Rattle.scl_catalogue.specs.Lookup.{Lexicon}
use Rattle.scl_catalogue.specs.declared.entry.Danger.{Danger}
use Rattle.scl_catalogue.specs.declared.entry.Danger.TheVariants as dangers
use Rattle.scl_text.specs.declared.records.Cacheable.{Cacheable}
use Rattle.scl_text.specs.declared.records.Cacheable.TheVariants as cacheable
use Rattle.scl_text.specs.Records.{Parsed}
use Rattle.scl_hazards.specs.Hazards.{Hazard}
use Rattle.scl_reader.specs.declared.compiler.Compiler.{Compiler}
use Rattle.scl_hazards.specs.Told.{Told}
use Rattle.scl_description.specs.Rows.{Entry, lone, row_entry}
use Rattle.scl_key.specs.Doings.{with_effects}
use Rattle.scl_key.specs.Keys.{Key, Keeping, under, not_kept, keeping_of, NoKey, no_key_entry}
use Rattle.scl_key.specs.Told.{RunWords, built, given, hazardous}
use Rattle.scl_delivered.specs.Delivered.{Delivered, delivered}
use Rattle.scl_delivered.specs.Rows.{rows_of, last_rows_of}
use Rattle.scl_describe.specs.Settings.{Settings, wanted}

-- the files that are made differ, and not only what is said
abbrev pub concerns_files : Danger → Bool
concerns_files dangers.Object = true
concerns_files dangers.Failure = true
concerns_files dangers.SideFile = true
concerns_files dangers.Messages = false
concerns_files dangers.Run = false

-- the first hazard that concerns files
abbrev pub barring : List Hazard → Option Hazard
barring hazards = find (λ hazard. concerns_files hazard.danger) hazards

abbrev pub names_response_file : List ℕ → Bool
names_response_file word = starts_with nat_eq word (codes "@")

-- What is run if no hazard concerns files: the built words if there is none, else the given ones. These are a key only if no file
-- has a part of them.
abbrev pub words_despite : (words : List (List ℕ)) → List Hazard → RunWords
words_despite words [] = built
words_despite words (hazard ∷ hazards) = if list_any names_response_file words then hazardous hazard.name else given words []

abbrev pub words_unless : Option (List ℕ) → RunWords → RunWords
words_unless None words = words
words_unless (Some hazard) words = hazardous hazard

-- the words that a cache runs at a miss of a command line of these words, with these hazards
abbrev pub run_words_by : (words : List (List ℕ)) → List Hazard → RunWords
run_words_by words hazards = words_unless (option_map (λ hazard. hazard.name) (barring hazards)) (words_despite words hazards)

-- ---- what is said

pub data Kept : Type 0 where
  -- it may not be kept, or the key is not wanted
  nothing : Kept
  under_key : (key : Delivered) → Kept
  -- of this option nothing is known
  unknown : (word : List ℕ) → Kept
  -- no key can be right, for these reasons
  under_none : (why : List NoKey) → Kept

-- a key of a record as settings request it
abbrev pub delivered_by : Lexicon → Settings → Compiler → Parsed → Key → Delivered
delivered_by l s compiler p key = delivered l compiler p s.bases s.keeps_shown key

-- a key, unless nothing is known of an option: no key can answer for what that does
abbrev pub key_unless : Option (List ℕ) → Delivered → Kept
key_unless None key = under_key key
key_unless (Some word) key = unknown word

abbrev pub judged : Option (List ℕ) → (deliver : Key → Delivered) → Keeping → Kept
judged option deliver (under key) = key_unless option (deliver key)
judged option deliver (not_kept why) = under_none why

-- the outcome may be kept, and the key is wanted
abbrev pub is_told : Settings → Cacheable → Bool
is_told s cacheable.Yes = (wanted s).key
is_told s cacheable.No = false

-- what is said of a record, by what is known of its words and reported of its compiler
abbrev pub kept_for : Lexicon → Settings → Cacheable → Compiler → RunWords → Told → (environment : List (List ℕ × List ℕ)) → Parsed → Kept
kept_for l s may_be_kept compiler words told environment p =
    if is_told s may_be_kept then judged told.unknown (delivered_by l s compiler p) (with_effects p told.effects (keeping_of l compiler environment words p)) else nothing

-- ---- its rows

-- those of a key before the options, and that this is all
abbrev pub under_entries : Delivered → List Entry
under_entries key = rows_of key ++ row_entry (codes "keep") (lone (codes "yes")) ∷ []

-- before those of options
abbrev pub kept_entries : Kept → List Entry
kept_entries nothing = []
kept_entries (under_key key) = under_entries key
kept_entries (unknown word) = row_entry (codes "keep") (codes "unknown" ∷ word ∷ []) ∷ []
kept_entries (under_none why) = map no_key_entry why

-- at the end
abbrev pub last_entries : Kept → List Entry
last_entries nothing = []
last_entries (under_key key) = last_rows_of key
last_entries (unknown word) = []
last_entries (under_none why) = []
