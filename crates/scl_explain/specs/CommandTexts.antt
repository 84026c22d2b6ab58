-- The text of a command.
use Rattle.std.specs.Prelude.{ℕ, List, [], ◌∷◌, ◌++◌}
use Rattle.std.specs.List.{flat_map}
use Rattle.scl_shell.specs.Quoted.{quoted_text}
use Rattle.scl_shell.specs.Shown.{shown_text}
use Rattle.scl_explain.specs.declared.words.WordForm.{WordForm}
use Rattle.scl_explain.specs.declared.words.WordForm.TheVariants as forms

abbrev pub ended_by_nul : List ℕ → List ℕ
ended_by_nul word = word ++ 0 ∷ []

-- a line quoted for a shell, or for a terminal, or each word with a NUL after it
abbrev pub command_text : WordForm → List (List ℕ) → List ℕ
command_text forms.Quoted words = quoted_text words ++ 10 ∷ []
command_text forms.Shown words = shown_text words ++ 10 ∷ []
command_text forms.EndedByNul words = flat_map ended_by_nul words
