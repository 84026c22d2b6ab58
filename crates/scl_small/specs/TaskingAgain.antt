-- When a command of TaskingVX is read again.
use Rattle.std.specs.Prelude.{ℕ, List, [], ◌∷◌}
use Rattle.scl_text.specs.Records.{Parsed}
use Rattle.scl_small.specs.ReadAgain.{CommandIsReadAgain}
use Rattle.scl_small.specs.TaskingReading.{place}
use Rattle.scl_small.specs.TaskingTable.{rows}
use Rattle.scl_small.specs.declared.tasking_vx.data.Kind.TheVariants as kinds

-- the command of a record of these words
abbrev pub TaskingReadsAgain : List (List ℕ) → Parsed → List (List ℕ) → Type 0
TaskingReadsAgain = CommandIsReadAgain place kinds.DoCompilation kinds.Output (rows ∷ [])
