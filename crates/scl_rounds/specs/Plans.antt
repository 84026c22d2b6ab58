-- What a compiler says by `-###` that it would run.
use Rattle.std.specs.Prelude.{ℕ, ◌+◌, ◌==◌, ◌&&◌, ◌||◌, not, nat_eq, Bool, cond, List, [], ◌∷◌, ◌++◌, length, drop, map, codes, Option, None, Some}
use Rattle.std.specs.List.{flat_map, list_any, prefix_len, starts_with}
use Rattle.std.specs.Option.{option_map, option_map_or, option_to_list, unwrap_or}
use Rattle.scl_driver_texts.specs.Splitters.{split}
use Rattle.scl_driver_texts.specs.declared.splitter.Splitter.TheVariants as splitters
use Rattle.scl_files.specs.Paths.{join, same_path}
use Rattle.scl_key.specs.Parts.{Part}
use Rattle.scl_lookup.specs.Keys.{Field, Row, said, summed, all_there, unfailed}
use Rattle.scl_lookup.specs.Questions.{Question, Program, Standing, regular, folder, special, missing, file, program, run, Written, Machine}
use Rattle.scl_readings.specs.Lines.{is_space, lines_after, parts}
use Rattle.scl_readings.specs.Places.{first_place}
use Rattle.scl_rounds.specs.Files.{in_one}
use Rattle.scl_rounds.specs.Keys.{Key, is_made}
use Rattle.scl_rounds.specs.Shown.{each_once, input_of}

-- it is read, so its messages are in one language
abbrev pub asked_plan : (words : List (List ℕ)) → Question
asked_plan words = run (codes "C") (codes "-###" ∷ words)

-- what the compiler wrote, if it did not fail
abbrev pub planned_on : Machine → (words : List (List ℕ)) → Option Written
planned_on m words = unfailed (m (asked_plan words))

-- ---- the text

-- a byte of a name in a plan
abbrev pub is_in_name : ℕ → Bool
is_in_name byte = not (byte == 0xa || (byte == 0x22 || is_space byte))

-- what follows a name of which the first bytes stand there
abbrev pub after_name : List ℕ → List ℕ
after_name text = drop (prefix_len is_in_name text) text

-- the text without the names of temporary files: NUL stands in place of their folder
abbrev pub cleaned_by : List (List ℕ) → List ℕ
cleaned_by [] = []
cleaned_by (first ∷ others) = first ++ flat_map after_name others

abbrev pub cleaned : List ℕ → List ℕ
cleaned text = cleaned_by (parts 0 text)

-- ---- the commands

abbrev pub words_in : (command : List ℕ) → List (List ℕ)
words_in command = unwrap_or (split splitters.Libiberty command) []

-- each command stands on a line after a space
abbrev pub commands : List ℕ → List (List ℕ)
commands text = lines_after 0x20 text

abbrev pub first_in : List (List ℕ) → List (List ℕ)
first_in [] = []
first_in (word ∷ words) = word ∷ []

abbrev pub called_by : (command : List ℕ) → List (List ℕ)
called_by command = first_in (words_in command)

-- the programs that are called
abbrev pub called_in : List ℕ → List (List ℕ)
called_in text = each_once (flat_map called_by (commands text))

-- ---- the files

-- it is the input; both are looked for from the place
abbrev pub is_input_at : (place path : List ℕ) → Part → Bool
is_input_at place path part = list_any (λ input. same_path (join place input) (join place path)) (option_to_list (input_of part))

abbrev pub is_input : Key → List ℕ → Bool
is_input key path = list_any (is_input_at key.place path) key.parts

-- no option, and no temporary file
abbrev pub is_name : List ℕ → Bool
is_name name = not (length name == 0) && (not (starts_with nat_eq name (codes "-")) && not (list_any (λ byte. byte == 0) name))

-- what the command reads beside the input and writes beside its outputs
abbrev pub is_beside : Key → List ℕ → Bool
is_beside key name = is_name name && (not (is_made key name) && not (is_input key name))

-- what follows the first `=` in a word
abbrev pub after_equals : List ℕ → Option (List ℕ)
after_equals word = option_map (λ at. drop (at + 1) word) (first_place (codes "=") word)

abbrev pub if_beside : Key → List ℕ → List (List ℕ)
if_beside key name = cond (is_beside key name) (name ∷ []) []

-- of a word itself, and of what follows `=` in it
abbrev pub beside_in : Key → (word : List ℕ) → List (List ℕ)
beside_in key word = if_beside key word ++ option_map_or (if_beside key) (after_equals word) []

abbrev pub beside_by : Key → (command : List ℕ) → List (List ℕ)
beside_by key command = flat_map (beside_in key) (words_in command)

abbrev pub files_in_plan : Key → List ℕ → List (List ℕ)
files_in_plan key text = each_once (flat_map (beside_by key) (commands text))

-- ---- the row

-- a name and the bytes of its file; nothing of a folder, or where there is nothing; none: there is what is no file
abbrev pub there_by : List ℕ → Standing → Option Row
there_by name (regular sum) = Some (said name ∷ summed sum ∷ [])
there_by name folder = Some []
there_by name special = None
there_by name missing = Some []

abbrev pub there_row : Machine → List ℕ → Option Row
there_row m name = there_by name (m (file name))

abbrev pub there_told : Machine → List (List ℕ) → Option Row
there_told m names = option_map in_one (all_there (map (there_row m) names))

-- a name, and the sum of its program, if there is one
abbrev pub program_row : List ℕ → Option Program → Row
program_row name None = []
program_row name (Some it) = said name ∷ summed it.sum ∷ []

abbrev pub programs_told : Machine → List (List ℕ) → Row
programs_told m names = flat_map (λ name. program_row name (m (program name))) names

abbrev pub plan_told : Key → Machine → (text : List ℕ) → Option (List Field)
plan_told key m text = option_map (λ files. said (cleaned text) ∷ files ++ programs_told m (called_in text)) (there_told m (files_in_plan key text))
