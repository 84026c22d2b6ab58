-- The headers that were compiled before, and that gcc may read in the place of the first one that a source includes.
use Rattle.std.specs.Prelude.{ℕ, ◌-◌, not, Bool, true, false, cond, List, [], ◌∷◌, ◌++◌, length, take, map, codes, Option, None, Some}
use Rattle.std.specs.List.{filter_map, flat_map, list_any, suffix_len}
use Rattle.std.specs.Option.{option_map}
use Rattle.std.specs.Str.{bytes_eq}
use Rattle.scl_files.specs.Paths.{is_slash, join}
use Rattle.scl_key.specs.Parts.{Part, fields, run, run_else}
use Rattle.scl_lookup.specs.Keys.{Field, Row, said, text_of}
use Rattle.scl_lookup.specs.Questions.{Standing, regular, folder, special, missing, env, file, names as names_in, Machine}
use Rattle.scl_readings.specs.Lines.{leading_lines, parts}
use Rattle.scl_readings.specs.Markers.{files_in}
use Rattle.scl_readings.specs.declared.files.Named.TheVariants.{Entered}
use Rattle.scl_rounds.specs.Files.{files_told}
use Rattle.scl_rounds.specs.Keys.{Key, is_made, searches}
use Rattle.scl_rounds.specs.Searches.{all_folders_on}
use Rattle.scl_rounds.specs.Shown.{each_once, marked, shown}

-- ---- headers

-- the names of what is said to be this; each stands after what it is
abbrev pub named : (what : List ℕ) → List (List ℕ) → List (List ℕ)
named what [] = []
named what (it ∷ []) = []
named what (it ∷ (name ∷ searched)) = cond (bytes_eq it what) (name ∷ named what searched) (named what searched)

-- the files that a text enters before any text but directives: behind other text no such header is taken
abbrev pub leading_in : List ℕ → List (List ℕ)
leading_in text = files_in Entered (leading_lines text)

-- the first headers: those that the runs enter, and those that words name
abbrev pub headers : Key → Machine → (searched : List (List ℕ)) → List (List ℕ)
headers key m searched = flat_map leading_in (shown key m) ++ named (codes "header") searched

-- what follows each slash of a path
abbrev pub behind_slashes : List ℕ → List (List ℕ)
behind_slashes [] = []
behind_slashes (byte ∷ path) = cond (is_slash byte) (path ∷ behind_slashes path) (behind_slashes path)

-- the names by which a source may include a header: `a/b.h` also as `b.h`
abbrev pub included_as : (header : List ℕ) → List (List ℕ)
included_as header = header ∷ behind_slashes header

-- ---- folders

-- a path up to its last slash
abbrev pub folder_of : List ℕ → List ℕ
folder_of path = take (length path - suffix_len (λ byte. not (is_slash byte)) path) path

-- the folders in the value of a variable; an empty name is the directory
abbrev pub folders_in : (value : Option (List ℕ)) → List (List ℕ)
folders_in None = []
folders_in (Some value) = parts 0x3a value

abbrev pub folders_by : Machine → (variables : List (List ℕ)) → List (List ℕ)
folders_by m variables = flat_map (λ name. folders_in (m (env name))) variables

-- those that words name, those of the first headers and of the input, those that variables name, and those that the compiler names
abbrev pub folders : Key → Machine → (headers searched : List (List ℕ)) → List (List ℕ)
folders key m headers searched =
    each_once
    (named (codes "folder") searched
    ++ map folder_of headers
    ++ map folder_of (named (codes "beside") searched)
    ++ folders_by m (named (codes "variable") searched)
    ++ all_folders_on m (searches key))

-- ---- where they may stand

-- a header that was compiled
abbrev pub compiled : List ℕ → List ℕ
compiled header = header ++ codes ".gch"

abbrev pub compiled_in : (names : List (List ℕ)) → (place : List ℕ) → List (List ℕ)
compiled_in names place = map (λ name. compiled (join place name)) names

-- what the command writes does not count
unfoldable pub unless_made : Key → List ℕ → List (List ℕ)
unless_made key path = cond (is_made key path) [] (path ∷ [])

-- in each folder by each name, and beside each source
abbrev pub places_by : Key → (within names sources : List (List ℕ)) → List (List ℕ)
places_by key within names sources = flat_map (unless_made key) (each_once (flat_map (compiled_in names) within ++ map compiled sources))

abbrev pub places : Key → Machine → (searched : List (List ℕ)) → List (List ℕ)
places key m searched =
    let them = headers key m searched in places_by key (folders key m them searched) (each_once (flat_map included_as them)) (them ++ marked key m)

-- ---- folders of them

abbrev pub is_folder : Standing → Bool
is_folder (regular sum) = false
is_folder folder = true
is_folder special = false
is_folder missing = false

-- what is in a folder; nothing, if it is none
abbrev pub inside : Machine → List ℕ → List (List ℕ)
inside m path = cond (is_folder (m (file path))) (map (join path) (m (names_in path))) []

abbrev pub all_inside : Machine → (paths : List (List ℕ)) → List (List ℕ)
all_inside m paths = flat_map (inside m) paths

-- ---- the row

abbrev pub is_there : Standing → Bool
is_there (regular sum) = true
is_there folder = true
is_there special = true
is_there missing = false

abbrev pub any_there : Machine → (paths : List (List ℕ)) → Bool
any_there m paths = list_any (λ path. is_there (m (file path))) paths

-- the row of a run whole, with the words by which it asks
abbrev pub run_row : Part → Option Row
run_row (run words) = Some (map said (fields (run words)))
run_row (run_else words) = Some (map said (fields (run_else words)))
run_row other = None

abbrev pub run_rows : Key → List Row
run_rows key = filter_map run_row key.parts

-- The words of the runs, as one text. They say of which kind each folder is: `-isystem j -Ik` and `-Ij -Ik` search the same places,
-- but not in one order.
abbrev pub words_told : Key → Field
words_told key = said (text_of (run_rows key))

-- Nothing, if none is there. Else the words of the runs, all places in order with what stands there, since the first that fits is
-- taken, and what is in folders.
abbrev pub headers_told : Key → Machine → (paths : List (List ℕ)) → Option (List Field)
headers_told key m paths = cond (any_there m paths) (option_map (λ files. words_told key ∷ files) (files_told m (paths ++ all_inside m paths))) (Some [])
