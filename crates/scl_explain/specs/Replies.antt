-- What the program writes of a command line, by its answer and the hazards of its command.
use Rattle.std.specs.Prelude.{◌≡◌, ◌&&◌, ℕ, Bool, true, false, List, [], ◌∷◌, ◌++◌, codes, if◌then◌else◌}
use Rattle.std.specs.List.{flat_map, list_any}
use Rattle.scl_describe.specs.Keepings.{concerns_files}
use Rattle.scl_hazards.specs.Hazards.{Hazard}
use Rattle.scl_reader.specs.Answers.{Answer, compiled, cannot_cache, not_compilation}
use Rattle.scl_shell.specs.Shown.{shown}
use Rattle.scl_explain.specs.CommandTexts.{command_text}
use Rattle.scl_explain.specs.Nuls.{some_hold_nul}
use Rattle.scl_explain.specs.declared.words.WordForm.{WordForm}
use Rattle.scl_explain.specs.declared.reply.Form.{Form}
use Rattle.scl_explain.specs.declared.reply.Form.TheVariants as form

-- the line of a hazard: its name, and what happens
abbrev pub hazard_line : Hazard → List ℕ
hazard_line hazard = shown hazard.name ++ codes ": " ++ shown hazard.consequence ++ 10 ∷ []

abbrev pub hazards_text : List Hazard → List ℕ
hazards_text hazards = flat_map hazard_line hazards

-- what is written of hazards for a person: a line each; what machines read is no matter here
abbrev pub IsChecked : Form → List Hazard → List ℕ → Type 0
IsChecked (form.Text paint) hazards text = text ≡ hazards_text hazards
IsChecked form.Json hazards text = Unit {0}

abbrev pub some_concern_files : List Hazard → Bool
some_concern_files hazards = list_any (λ hazard. concerns_files hazard.danger) hazards

-- no command is written in a strict form where a hazard concerns files
abbrev pub is_barred : (is_strict : Bool) → List Hazard → Bool
is_barred is_strict hazards = is_strict && some_concern_files hazards

-- the text of the command for a program, where there is one, it is not barred, and a process can be given its words
abbrev pub command_written : WordForm → List ℕ → Answer → (is_barred : Bool) → List ℕ
command_written form program (compiled words kept) true = []
command_written form program (compiled words kept) false = if some_hold_nul (program ∷ words) then [] else command_text form (program ∷ words)
command_written form program (cannot_cache reason beside) barred = []
command_written form program not_compilation barred = []
