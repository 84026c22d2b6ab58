-- The texts that the runs of a key write, and the files that these name.
use Rattle.std.specs.Prelude.{ℕ, ◌==◌, length, not, cond, List, [], ◌∷◌, ◌++◌, filter, codes, Option, None, Some, if◌then◌else◌}
use Rattle.std.specs.List.{filter_map, flat_map, list_any}
use Rattle.std.specs.Option.{option_map}
use Rattle.std.specs.Str.{bytes_eq}
use Rattle.scl_key.specs.Parts.{Part, is, run, run_else}
use Rattle.scl_lookup.specs.Keys.{ran_on}
use Rattle.scl_lookup.specs.Questions.{file, bytes, Machine}
use Rattle.scl_rounds.specs.Files.{is_regular}
use Rattle.scl_rounds.specs.Keys.{Key}
use Rattle.scl_rounds.specs.Runs.{has_failed, marked_in}

-- ---- texts

-- what a run writes to standard output, if it does not fail
abbrev pub text_on : Machine → List (List ℕ) → Option (List ℕ)
text_on m words = option_map (λ it. it.output) (ran_on m words)

abbrev pub shown_by : Key → Machine → Part → Option (List ℕ)
shown_by key m (run words) = text_on m words
shown_by key m (run_else words) = cond (has_failed key m) (text_on m words) None
shown_by key m other = None

abbrev pub shown : Key → Machine → List (List ℕ)
shown key m = filter_map (shown_by key m) key.parts

-- ---- names

-- with one more name, unless it is there
abbrev pub with_name : List (List ℕ) → List ℕ → List (List ℕ)
with_name names name = cond (list_any (λ other. bytes_eq other name) names) names (names ++ name ∷ [])

-- each once, where it first stands
abbrev pub each_once : List (List ℕ) → List (List ℕ)
each_once [] = []
each_once (name ∷ names) = name ∷ filter (λ other. not (bytes_eq name other)) (each_once names)

-- the input, if the fact names it
abbrev pub input_in : List (List ℕ) → Option (List ℕ)
input_in [] = None
input_in (name ∷ []) = None
input_in (name ∷ value ∷ more) = if bytes_eq name (codes "input") then Some value else None

abbrev pub input_of : Part → Option (List ℕ)
input_of (is fact) = input_in fact
input_of other = None

abbrev pub marked : Key → Machine → List (List ℕ)
marked key m = each_once (flat_map marked_in (shown key m))

-- the files that the runs name, and the input
abbrev pub all_sources : Key → Machine → List (List ℕ)
all_sources key m = each_once (flat_map marked_in (shown key m) ++ filter_map input_of key.parts)

-- ---- what is searched

-- the input, where the runs name no file
abbrev pub unmarked : Key → Machine → List (List ℕ)
unmarked key m = if length (marked key m) == 0 then filter_map input_of key.parts else []

abbrev pub content_at : Machine → List ℕ → Option (List ℕ)
content_at m name = cond (is_regular (m (file name))) (m (bytes name)) None

-- the texts of the runs, and the input if they name no file
abbrev pub searched : Key → Machine → List (List ℕ)
searched key m = shown key m ++ filter_map (content_at m) (unmarked key m)
