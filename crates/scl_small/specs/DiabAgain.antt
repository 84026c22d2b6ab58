-- When a command of Diab is read again.
use Rattle.std.specs.Prelude.{ℕ, List, [], ◌∷◌}
use Rattle.scl_files.specs.Expand.{expand}
use Rattle.scl_text.specs.Records.{Parsed}
use Rattle.scl_files.specs.Views.{File}
use Rattle.scl_files.specs.declared.expand.ExpansionKind.TheVariants as expansions
use Rattle.scl_small.specs.DiabReading.{place}
use Rattle.scl_small.specs.DiabTable.{rows}
use Rattle.scl_small.specs.ReadAgain.{CommandIsReadAgain}
use Rattle.scl_small.specs.declared.diab.data.Kind.TheVariants as kinds

-- the command of a record of these words, with their response files expanded from the directory
abbrev pub DiabReadsAgain : List ℕ → List File → List (List ℕ) → Parsed → List (List ℕ) → Type 0
DiabReadsAgain directory files words = CommandIsReadAgain place kinds.DoCompilation kinds.Output (rows ∷ []) (expand expansions.Diab directory files words)
