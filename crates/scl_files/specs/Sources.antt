-- From which given word a word came.
use Rattle.std.specs.Prelude.{ℕ, zero, suc, List, [], ◌∷◌, ◌++◌, length, drop, replicate, Option, None, Some}
use Rattle.scl_files.specs.Expand.{expand}
use Rattle.scl_files.specs.Views.{File}
use Rattle.scl_files.specs.declared.expand.ExpansionKind.{ExpansionKind}

-- the indices of n given words
abbrev pub indices : ℕ → List (Option ℕ)
indices zero = []
indices (suc n) = indices n ++ Some n ∷ []

abbrev pub first_at : List (Option ℕ) → Option ℕ
first_at [] = None
first_at (at ∷ ats) = at

-- of each word of an expansion, the index of the given word from which it came
abbrev pub ats_expanded : ExpansionKind → List ℕ → List File → List (List ℕ) → List (Option ℕ) → List (Option ℕ)
ats_expanded kind directory files [] ats = []
ats_expanded kind directory files (word ∷ words) ats =
    replicate (length (expand kind directory files (word ∷ []))) (first_at ats) ++ ats_expanded kind directory files words (drop 1 ats)
