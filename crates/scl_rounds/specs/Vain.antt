-- Where nothing may be kept, by the answers so far: nothing more is asked.
use Rattle.std.specs.Prelude.{◌&&◌, not, is_none, Bool, false, Option, None, Some}
use Rattle.std.specs.List.{list_any}
use Rattle.scl_key.specs.Parts.{Part, plan, run, run_else}
use Rattle.scl_lookup.specs.Keys.{ran_on}
use Rattle.scl_lookup.specs.Questions.{Written, Machine}
use Rattle.scl_rounds.specs.declared.question.Phase.{Phase}
use Rattle.scl_rounds.specs.declared.question.Phase.TheVariants as phases
use Rattle.scl_rounds.specs.Answers.{answer_on}
use Rattle.scl_rounds.specs.Keys.{Key, is_early}
use Rattle.scl_rounds.specs.Plans.{planned_on}
use Rattle.scl_rounds.specs.Runs.{has_failed, may_fail, names_sources}

-- by what the first round answers
abbrev pub forbids : Key → Machine → Part → Bool
forbids key m part = is_early part && is_none (answer_on key m part)

abbrev pub is_forbidden : Key → Machine → Bool
is_forbidden key m = list_any (forbids key m) key.parts

-- a run failed that may not, or its text hides its sources
abbrev pub hides : (may_fail : Bool) → Option Written → Bool
hides may_fail None = not may_fail
hides may_fail (Some it) = not (names_sources it.output)

-- by what a run or a plan wrote
abbrev pub hides_by : Key → Machine → Part → Bool
hides_by key m (plan words) = is_none (planned_on m words)
hides_by key m (run words) = hides (may_fail key) (ran_on m words)
hides_by key m other = false

abbrev pub is_hidden : Key → Machine → Bool
is_hidden key m = list_any (hides_by key m) key.parts

-- by what a run wrote in the place of one that failed
abbrev pub hides_else : Key → Machine → Part → Bool
hides_else key m (run_else words) = has_failed key m && hides false (ran_on m words)
hides_else key m other = false

abbrev pub is_hidden_else : Key → Machine → Bool
is_hidden_else key m = list_any (hides_else key m) key.parts

-- a round is in vain
abbrev pub is_vain : Key → Phase → Machine → Bool
is_vain key phases.First m = false
is_vain key phases.Runs m = is_forbidden key m
is_vain key phases.RunsElse m = is_hidden key m
is_vain key phases.Files m = is_hidden_else key m
is_vain key phases.Details m = false
is_vain key phases.Inside m = false
