-- The compile command of Diab and TaskingVX.
use Rattle.std.specs.Prelude.{ℕ, List, [], ◌∷◌, ◌++◌, Option, None, Some, codes}
use Rattle.scl_text.specs.Commands.{command_by}
use Rattle.scl_text.specs.Records.{Parsed}

-- the words of a record's command with this object file
abbrev pub command_words : Parsed → List ℕ → List (List ℕ)
command_words p object = (p.compilation_flag ∷ p.input ∷ codes "-o" ∷ object ∷ []) ++ p.preprocessor_args ++ p.unhashed_args ++ p.common_args

-- ---- the runs of the preprocessor

-- Diab's run
abbrev pub diab_words : Parsed → List (List ℕ)
diab_words p = (codes "-E" ∷ p.input ∷ []) ++ p.dependency_args ++ p.preprocessor_args ++ p.common_args

abbrev pub diab_runs : Parsed → List (List (List ℕ))
diab_runs p = diab_words p ∷ []

-- the words at the end of both runs of TaskingVX
abbrev pub input_and_list_words : Parsed → List (List ℕ)
input_and_list_words p = p.input ∷ [] ++ p.preprocessor_args ++ p.common_args

-- the run that writes the dependency file, if the record has one
abbrev pub depfile_runs : Option (List ℕ) → Parsed → List (List (List ℕ))
depfile_runs None p = []
depfile_runs (Some depfile) p = ((codes "-Em" ∷ codes "-o" ∷ depfile ∷ []) ++ input_and_list_words p) ∷ []

abbrev pub tasking_runs : Parsed → List (List (List ℕ))
tasking_runs p = depfile_runs p.depfile p ++ ((codes "-E" ∷ []) ++ input_and_list_words p) ∷ []

-- the words of a record's command, if it has an object file
abbrev pub command : Parsed → Option (List (List ℕ))
command p = command_by command_words p
