-- What a list of answers needs beside those of a key: where a run might find another file, if one comes to be there.
use Rattle.std.specs.Prelude.{ℕ, ◌&&◌, ◌||◌, not, nat_eq, Bool, true, false, List, [], ◌∷◌, ◌++◌, map, codes, Option, None, Some}
use Rattle.std.specs.List.{flat_map, list_all, list_any, starts_with}
use Rattle.std.specs.Str.{bytes_eq}
use Rattle.scl_files.specs.Paths.{join}
use Rattle.scl_key.specs.Directs.{Direct, env as env_asked, search, first, named, refuse_if_read}
use Rattle.scl_key.specs.Parts.{Part, run, run_else}
use Rattle.scl_lookup.specs.Questions.{file, Machine}
use Rattle.scl_patterns.specs.Sources.{joined, named_in}
use Rattle.scl_patterns.specs.Unseen.{reads_unseen}
use Rattle.scl_readings.specs.Places.{has_word}
use Rattle.scl_rounds.specs.Files.{is_regular}
use Rattle.scl_rounds.specs.Headers.{folder_of}
use Rattle.scl_rounds.specs.Keys.{Key, headers_named, searches}
use Rattle.scl_rounds.specs.Searches.{all_folders_on, are_all_named}
use Rattle.scl_rounds.specs.Shown.{all_sources, content_at, each_once}

-- the compiler names the folders that it searches
abbrev pub is_search : Direct → Bool
is_search (env_asked name) = false
is_search (search words) = true
is_search (first header) = false
is_search (named pattern) = false
is_search (refuse_if_read pattern) = false

abbrev pub is_searched : Key → Bool
is_searched key = list_any is_search key.direct

-- ---- names

-- the files whose text names others: the sources, and the headers that words name
abbrev pub naming : Key → Machine → List (List ℕ)
naming key m = each_once (all_sources key m ++ headers_named key)

abbrev pub names_by : (text : Option (List ℕ)) → List (List ℕ)
names_by None = []
names_by (Some text) = named_in (joined text)

abbrev pub names_on : Machine → (source : List ℕ) → List (List ℕ)
names_on m source = names_by (content_at m source)

-- ---- where files with these names may stand

-- beside the source that names them
abbrev pub beside_by : (source : List ℕ) → (text : Option (List ℕ)) → List (List ℕ)
beside_by source text = map (join (folder_of source)) (names_by text)

abbrev pub beside_on : Machine → (source : List ℕ) → List (List ℕ)
beside_on m source = beside_by source (content_at m source)

abbrev pub in_folders : (folders names : List (List ℕ)) → List (List ℕ)
in_folders folders names = flat_map (λ folder. map (join folder) names) folders

abbrev pub candidates_by : (folders names beside : List (List ℕ)) → List (List ℕ)
candidates_by folders names beside = each_once beside ++ in_folders folders (each_once names)

abbrev pub candidates_from : Key → Machine → (sources : List (List ℕ)) → List (List ℕ)
candidates_from key m sources = candidates_by (all_folders_on m (searches key)) (headers_named key ++ flat_map (names_on m) sources) (flat_map (beside_on m) sources)

abbrev pub candidates : Key → Machine → List (List ℕ)
candidates key m = candidates_from key m (naming key m)

-- ---- whether these are all

-- a text reads what no name in it says
abbrev pub hides_by : (text : Option (List ℕ)) → Bool
hides_by None = false
hides_by (Some text) = reads_unseen (joined text)

abbrev pub any_hides : Machine → (sources : List (List ℕ)) → Bool
any_hides m sources = list_any (λ source. hides_by (content_at m source)) sources

-- A word may define a macro that does so, or say that the bytes of sources are other characters. NUL stands for a file of the run's own.
abbrev pub is_loose : (word : List ℕ) → Bool
is_loose word =
    (reads_unseen word && not (bytes_eq word (0 ∷ []))) || (has_word (codes "__has_include") word || starts_with nat_eq word (codes "-finput-charset"))

abbrev pub run_words : Part → List (List ℕ)
run_words (run words) = words
run_words (run_else words) = words
run_words other = []

abbrev pub has_loose : Part → Bool
has_loose part = list_any is_loose (run_words part)

abbrev pub all_regular : Machine → (names : List (List ℕ)) → Bool
all_regular m names = list_all (λ name. is_regular (m (file name))) names

-- The answers to all that was asked, but for what is written by runs in the language of the environment, tell whether the runs would
-- write the same.
abbrev pub is_listed : Key → Machine → Bool
is_listed key m =
    is_searched key
    && (not (list_any has_loose key.parts)
    && (are_all_named m (searches key) && (all_regular m (all_sources key m) && not (any_hides m (naming key m)))))
