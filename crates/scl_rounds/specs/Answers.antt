-- What the parts of a key say on a machine.
use Rattle.std.specs.Prelude.{ℕ, ◌&&◌, Bool, false, cond, List, [], ◌∷◌, ◌++◌, map, codes, Option, None, Some}
use Rattle.std.specs.Option.{option_and_then, option_map}
use Rattle.std.specs.Str.{bytes_eq}
use Rattle.scl_files.specs.Paths.{begins_with_slash}
use Rattle.scl_key.specs.declared.part.Ask.{Ask}
use Rattle.scl_key.specs.declared.part.Ask.TheVariants as asks
use Rattle.scl_key.specs.Parts.{Part, is, output, directory, compiler, plan, asked, run, run_else, pch, sources, times, hashed}
use Rattle.scl_lookup.specs.Keys.{Field, said, Row, all_there, ran_on}
use Rattle.scl_lookup.specs.Questions.{Question, env, program, file, real, Machine}
use Rattle.scl_questions.specs.Told.{value_told, unset_told, file_told, maybe_told, regular_told, program_told}
use Rattle.scl_rounds.specs.Files.{files_told, times_told}
use Rattle.scl_rounds.specs.Headers.{headers_told, places}
use Rattle.scl_rounds.specs.Keys.{Key, is_made}
use Rattle.scl_rounds.specs.Listings.{is_listed}
use Rattle.scl_patterns.specs.Patterns.{is_shown}
use Rattle.scl_rounds.specs.Plans.{plan_told, planned_on}
use Rattle.scl_patterns.specs.Refusals.{is_refused}
use Rattle.scl_rounds.specs.Runs.{has_failed, may_fail, no_text, run_told}
use Rattle.scl_rounds.specs.Shown.{all_sources, marked, searched, shown}

-- ---- the directory

abbrev pub said_directory : Question
said_directory = env (codes "PWD")

-- the name that is said, if it is absolute and leads where the place does; else the place
abbrev pub directory_by : (place : List ℕ) → Machine → Option (List ℕ) → List ℕ
directory_by place m None = place
directory_by place m (Some name) = cond (begins_with_slash name && bytes_eq (m (real name)) (m (real place))) name place

abbrev pub directory_on : (place : List ℕ) → Machine → List ℕ
directory_on place m = directory_by place m (m said_directory)

-- ---- answers

-- names and bytes, if a text has the pattern; nothing may be kept if it is not known
abbrev pub told_if : Machine → (is_shown : Option Bool) → (names : List (List ℕ)) → Option (List Field)
told_if m None names = None
told_if m (Some is_shown) names = cond is_shown (files_told m names) (Some no_text)

-- nothing may be kept if a text has the pattern, or if it is not known
abbrev pub refused_told : (is_refused : Option Bool) → Option (List Field)
refused_told None = None
refused_told (Some is_refused) = cond is_refused None (Some [])

abbrev pub answer_asked : Key → Machine → Ask → List ℕ → Option (List Field)
answer_asked key m asks.Env name = Some (value_told (m (env name)))
answer_asked key m asks.Unset name = unset_told (m (env name))
answer_asked key m asks.File path = file_told (m (file path))
answer_asked key m asks.Maybe path = cond (is_made key path) (Some []) (maybe_told (m (file path)))
answer_asked key m asks.Regular path = regular_told (m (file path))
answer_asked key m asks.SourcesIfShown pattern = told_if m (is_shown pattern (shown key m)) (all_sources key m)
answer_asked key m asks.RefuseIfShown pattern = refused_told (is_refused pattern (searched key m))

-- what a machine answers to a part; none: nothing may be kept
abbrev pub answer_on : Key → Machine → Part → Option (List Field)
answer_on key m (is row) = Some []
answer_on key m (output made) = Some []
answer_on key m directory = Some (said (directory_on key.place m) ∷ [])
answer_on key m compiler = program_told (m (program []))
answer_on key m (plan words) = option_and_then (λ it. plan_told key m it.messages) (planned_on m words)
answer_on key m (asked ask name) = answer_asked key m ask name
answer_on key m (run words) = run_told m (may_fail key) (ran_on m words)
answer_on key m (run_else words) = cond (has_failed key m) (run_told m false (ran_on m words)) (Some no_text)
answer_on key m (pch searched) = headers_told key m (places key m searched)
answer_on key m sources = files_told m (all_sources key m)
answer_on key m times = times_told m (marked key m)

-- ---- rows

-- what is hashed of the part itself, and then its answer
abbrev pub row_by : Part → List Field → Row
row_by part answer = map said (hashed part) ++ answer

abbrev pub row_on : Key → Machine → Part → Option Row
row_on key m part = option_map (row_by part) (answer_on key m part)

-- the rows of the parts, if each has one
abbrev pub rows_on : Key → Machine → Option (List Row)
rows_on key m = all_there (map (row_on key m) key.parts)

-- ---- the end

-- the rows, and whether a list of answers may stand for the runs
pub record Outcome : Type 0 where
  pub rows : List Row
  pub is_listed : Bool

abbrev pub outcome_by : Key → Machine → List Row → Outcome
outcome_by key m rows = record { rows = rows; is_listed = is_listed key m }

abbrev pub outcome_on : Key → Machine → Option Outcome
outcome_on key m = option_map (outcome_by key m) (rows_on key m)
