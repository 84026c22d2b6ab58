-- What a key asks of a machine, round by round.
use Rattle.std.specs.Prelude.{◌≡◌, ℕ, Bool, cond, List, [], ◌∷◌, ◌++◌, length, map, codes, Option, None, Some}
use Rattle.std.specs.List.{flat_map}
use Rattle.scl_files.specs.Paths.{begins_with_slash}
use Rattle.scl_key.specs.declared.part.Ask.{Ask}
use Rattle.scl_key.specs.declared.part.Ask.TheVariants as asks
use Rattle.scl_key.specs.Parts.{Part, directory, compiler, plan, asked, run as run_part, run_else, pch, sources, times as times_part}
use Rattle.scl_lookup.specs.Questions.{Question, env, program, file, bytes, names as names_in, real, times, run, Standing, Written, Machine}
use Rattle.scl_questions.specs.Talks.{Stage, ends, talk}
use Rattle.scl_rounds.specs.declared.question.Detail.{Detail}
use Rattle.scl_rounds.specs.declared.question.Detail.TheVariants as details
use Rattle.scl_rounds.specs.declared.question.Phase.{Phase}
use Rattle.scl_rounds.specs.declared.question.Phase.TheVariants as phases
use Rattle.scl_rounds.specs.Answers.{outcome_on, said_directory}
use Rattle.scl_rounds.specs.Files.{is_regular}
use Rattle.scl_rounds.specs.Headers.{all_inside, is_folder, named, places}
use Rattle.scl_rounds.specs.Keys.{Key, is_made, searches, variables}
use Rattle.scl_rounds.specs.Listings.{candidates, is_searched, naming}
use Rattle.scl_patterns.specs.Patterns.{is_shown}
use Rattle.scl_rounds.specs.Plans.{asked_plan, called_in, files_in_plan, planned_on}
use Rattle.scl_rounds.specs.Runs.{entered_in, has_failed, loaded_in, marked_in}
use Rattle.scl_rounds.specs.Searches.{all_folders_on, asked_search}
use Rattle.scl_rounds.specs.Shown.{all_sources, marked, shown, shown_by, unmarked}
use Rattle.scl_rounds.specs.Vain.{is_vain}

-- ---- what each round asks for a part

abbrev pub first_asked : Key → Ask → List ℕ → List Question
first_asked key asks.Env name = env name ∷ []
first_asked key asks.Unset name = env name ∷ []
first_asked key asks.File path = file path ∷ []
first_asked key asks.Maybe path = cond (is_made key path) [] (file path ∷ [])
first_asked key asks.Regular path = file path ∷ []
first_asked key other pattern = []

abbrev pub first : Key → Part → List Question
first key directory = said_directory ∷ []
first key compiler = program [] ∷ []
first key (asked ask name) = first_asked key ask name
first key (pch searched) = map env (named (codes "variable") searched)
first key other = []

-- whether `PWD` names the directory: its path without links is that of the place
abbrev pub behind_said : (place : List ℕ) → Option (List ℕ) → List Question
behind_said place None = []
behind_said place (Some name) = cond (begins_with_slash name) (real name ∷ real place ∷ []) []

-- A run writes its messages in the language of the environment, as the compilation does: they belong to the key.
abbrev pub asked_run : (words : List (List ℕ)) → List Question
asked_run words = run [] words ∷ []

abbrev pub second : Key → Machine → Part → List Question
second key m directory = behind_said key.place (m said_directory)
second key m (plan words) = asked_plan words ∷ []
second key m (run_part words) = asked_run words
second key m (pch searched) = map asked_search (searches key)
second key m other = []

abbrev pub third : Key → Machine → Part → List Question
third key m (run_else words) = cond (has_failed key m) (asked_run words) []
third key m other = []

-- Each file that the text of a run names, if there is a text: the headers that it loads, and all that its markers name. So a caller can see
-- whether one of them changes before the compilation has read it.
abbrev pub read_in : List ℕ → List (List ℕ)
read_in text = loaded_in text ++ marked_in text ++ entered_in text

abbrev pub read_by : (text : Option (List ℕ)) → List (List ℕ)
read_by None = []
read_by (Some text) = read_in text

-- the files that a plan names, if there is a plan
abbrev pub needed_by : Key → Option Written → List (List ℕ)
needed_by key None = []
needed_by key (Some it) = files_in_plan key it.messages

-- the programs that it calls
abbrev pub called_by_plan : Option Written → List (List ℕ)
called_by_plan None = []
called_by_plan (Some it) = called_in it.messages

abbrev pub called : Machine → Part → List (List ℕ)
called m (plan words) = called_by_plan (planned_on m words)
called m other = []

-- the names, if a text has the pattern
abbrev pub needed_if : (is_shown : Option Bool) → (names : List (List ℕ)) → List (List ℕ)
needed_if None names = []
needed_if (Some is_shown) names = cond is_shown names []

abbrev pub needed_asked : Key → Machine → Ask → List ℕ → List (List ℕ)
needed_asked key m asks.SourcesIfShown pattern = needed_if (is_shown pattern (shown key m)) (all_sources key m)
needed_asked key m asks.RefuseIfShown pattern = unmarked key m
needed_asked key m other name = []

-- the files that a part needs, by what the runs write
abbrev pub needed : Key → Machine → Part → List (List ℕ)
needed key m (run_part words) = read_by (shown_by key m (run_part words))
needed key m (run_else words) = read_by (shown_by key m (run_else words))
needed key m (plan words) = needed_by key (planned_on m words)
needed key m (asked ask name) = needed_asked key m ask name
needed key m (pch searched) = places key m searched
needed key m sources = all_sources key m
needed key m times_part = marked key m
needed key m other = []

abbrev pub fourth : Key → Machine → Part → List Question
fourth key m part = map program (called m part) ++ map file (needed key m part)

-- size and time, or the bytes, of a file; the names in a folder
abbrev pub has_detail : Detail → Standing → Bool
has_detail details.Times it = is_regular it
has_detail details.Content it = is_regular it
has_detail details.Names it = is_folder it

abbrev pub detail_question : Detail → List ℕ → Question
detail_question details.Times path = times path
detail_question details.Content path = bytes path
detail_question details.Names path = names_in path

abbrev pub detail_by : Detail → List ℕ → Standing → List Question
detail_by detail path it = cond (has_detail detail it) (detail_question detail path ∷ []) []

abbrev pub detail_asked : Detail → Machine → List ℕ → List Question
detail_asked detail m path = detail_by detail path (m (file path))

abbrev pub details_asked : Detail → Machine → List (List ℕ) → List Question
details_asked detail m paths = flat_map (detail_asked detail m) paths

abbrev pub fifth_asked : Key → Machine → Ask → List Question
fifth_asked key m asks.RefuseIfShown = details_asked details.Content m (unmarked key m)
fifth_asked key m other = []

abbrev pub fifth : Key → Machine → Part → List Question
fifth key m (asked ask name) = fifth_asked key m ask
fifth key m (pch searched) = details_asked details.Names m (places key m searched)
fifth key m times_part = details_asked details.Times m (marked key m)
fifth key m other = []

-- what is in folders of precompiled headers
abbrev pub sixth : Key → Machine → Part → List Question
sixth key m (pch searched) = map file (all_inside m (places key m searched))
sixth key m other = []

-- ---- rounds

abbrev pub asked_in : Key → Phase → Machine → Part → List Question
asked_in key phases.First m part = first key part
asked_in key phases.Runs m part = second key m part
asked_in key phases.RunsElse m part = third key m part
asked_in key phases.Files m part = fourth key m part
asked_in key phases.Details m part = fifth key m part
asked_in key phases.Inside m part = sixth key m part

-- What a round asks of files for a list of answers. Where links lead two folders to one, a compiler searches one of them.
abbrev pub listed_files : Key → Phase → Machine → List Question
listed_files key phases.First m = []
listed_files key phases.Runs m = []
listed_files key phases.RunsElse m = []
listed_files key phases.Files m = map file (all_sources key m) ++ map file (naming key m)
listed_files key phases.Details m = details_asked details.Content m (naming key m)
listed_files key phases.Inside m = map real (all_folders_on m (searches key)) ++ map file (candidates key m)

-- what a round asks for a list of answers
abbrev pub listed_in : Key → Phase → Machine → List Question
listed_in key phases.First m = map env (variables key)
listed_in key phases.Runs m = map asked_search (searches key)
listed_in key phases.RunsElse m = []
listed_in key phases.Files m = cond (is_searched key) (listed_files key phases.Files m) []
listed_in key phases.Details m = cond (is_searched key) (listed_files key phases.Details m) []
listed_in key phases.Inside m = cond (is_searched key) (listed_files key phases.Inside m) []

-- what a round asks, if it is not in vain
abbrev pub stage : Key → Phase → Stage
stage key phase m = cond (is_vain key phase m) None (Some (flat_map (asked_in key phase m) key.parts ++ listed_in key phase m))

abbrev pub all_phases : List Phase
all_phases = phases.First ∷ phases.Runs ∷ phases.RunsElse ∷ phases.Files ∷ phases.Details ∷ phases.Inside ∷ []

abbrev pub rounds : Key → List Stage
rounds key = map (stage key) all_phases

-- In as many rounds a caller that answers truly gets the rows of the key on its machine, or that there are none.
abbrev pub RoundsGiveRows : Type 0
RoundsGiveRows = (key : Key) (m : Machine) → talk (length (rounds key)) m (outcome_on key) (rounds key) [] ≡ ends (outcome_on key m)
