-- When two questions are one.
use Rattle.std.specs.Prelude.{ℕ, ◌==◌, ◌&&◌, Bool, List, [], ◌∷◌}
use lib.Pointwise.{pointwise}
use Rattle.std.specs.Str.{bytes_eq}
use Rattle.scl_lookup.specs.Questions.{Question, env, program, file, bytes, names, real, times, run}

-- which question it is
abbrev pub kind : Question → ℕ
kind (env name) = 0
kind (program name) = 1
kind (file path) = 2
kind (bytes path) = 3
kind (names path) = 4
kind (real path) = 5
kind (times path) = 6
kind (run language words) = 7

-- of what it asks
abbrev pub subject : Question → List (List ℕ)
subject (env name) = name ∷ []
subject (program name) = name ∷ []
subject (file path) = path ∷ []
subject (bytes path) = path ∷ []
subject (names path) = path ∷ []
subject (real path) = path ∷ []
subject (times path) = path ∷ []
subject (run language words) = language ∷ words

abbrev pub same : Question → Question → Bool
same a b = kind a == kind b && pointwise bytes_eq (subject a) (subject b)
