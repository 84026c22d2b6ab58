-- The statuses that the program ends with.
use Rattle.std.specs.Prelude.{ℕ, Bool, true, false, List, [], ◌∷◌}
use Rattle.scl_describe.specs.Keepings.{Kept, nothing, under_key, unknown, under_none}
use Rattle.scl_hazards.specs.Hazards.{Hazard}
use Rattle.scl_reader.specs.Answers.{Answer, compiled, cannot_cache, not_compilation}
use Rattle.scl_text.specs.declared.records.Cacheable.{Cacheable}
use Rattle.scl_text.specs.declared.records.Cacheable.TheVariants as cacheable
use Rattle.scl_explain.specs.Nuls.{some_hold_nul}
use Rattle.scl_explain.specs.declared.status.Ending.{Ending}
use Rattle.scl_explain.specs.declared.status.Ending.TheVariants as ending

-- some hazard is named
abbrev pub are_named : List Hazard → Bool
are_named [] = false
are_named (hazard ∷ hazards) = true

-- how a command ends, by whether a word holds a NUL, whether a hazard ends it, and whether its outcome may be kept
abbrev pub ending_of_command : (holds_nul has_hazard : Bool) → Cacheable → Ending
ending_of_command true has_hazard kept = ending.HoldsNul
ending_of_command false true kept = ending.Hazard
ending_of_command false false cacheable.No = ending.NotKept
ending_of_command false false cacheable.Yes = ending.Answered

-- how an answer for this program ends, by whether a hazard ends it
abbrev pub ending_of : List ℕ → Answer → (has_hazard : Bool) → Ending
ending_of program (compiled words kept) has_hazard = ending_of_command (some_hold_nul (program ∷ words)) has_hazard kept
ending_of program (cannot_cache reason beside) has_hazard = ending.CannotCache
ending_of program not_compilation has_hazard = ending.CompilesNothing

-- how it ends where the request is whether the outcome may be kept, by what is said of keeping it: as answered only under a key
abbrev pub ending_of_keeping : Cacheable → Kept → Ending
ending_of_keeping cacheable.No kept = ending.NotKept
ending_of_keeping cacheable.Yes (under_key key) = ending.Answered
ending_of_keeping cacheable.Yes nothing = ending.Different
ending_of_keeping cacheable.Yes (unknown word) = ending.Different
ending_of_keeping cacheable.Yes (under_none why) = ending.Different

abbrev pub status_of : Ending → ℕ
status_of ending.Answered = 0
status_of ending.Different = 1
status_of ending.Usage = 2
status_of ending.OutOfMemory = 3
status_of ending.FileFailed = 4
status_of ending.BadDatabase = 5
status_of ending.CannotCache = 10
status_of ending.CompilesNothing = 11
status_of ending.Hazard = 12
status_of ending.HoldsNul = 13
status_of ending.NotKept = 14
