-- The request about a command line, from all of its words.
use Rattle.std.specs.Prelude.{◌≡◌, ℕ, ◌+◌, List, [], ◌∷◌, ◌++◌, Option, None, Some, slice_index_or, take, drop}
use Rattle.scl_values.specs.Words.{words_of}
use Rattle.scl_text.specs.Commands.{pairs_of}
use Rattle.scl_names.specs.Launchers.{assignment_at, program_behind}
use Rattle.scl_names.specs.Names.{compiler_of}
use Rattle.scl_reader.specs.declared.compiler.Compiler.{Compiler}
use Rattle.scl_explain.specs.declared.case.Case.{Case}
use Rattle.scl_explain.specs.declared.case.CaseError.{CaseError}
use Rattle.scl_explain.specs.declared.case.CaseError.TheVariants as errors
use Rattle.scl_explain.specs.declared.case.Conditions.{Conditions}
use Rattle.scl_explain.specs.declared.case.Divided.{Divided}

-- the compiler that was named, else the one that the program's name names
abbrev pub compiler_for : Option Compiler → List ℕ → Option Compiler
compiler_for (Some compiler) program = Some compiler
compiler_for None program = compiler_of program

-- the variable that a word assigns whose `=` stands there, and its value
abbrev pub assigned_at : List ℕ → Option ℕ → List (List ℕ × List ℕ)
assigned_at word None = []
assigned_at word (Some at) = (take at word, drop (at + 1) word) ∷ []

-- the variable that a word assigns, if it does: what stands before the first `=`, and what stands after it
abbrev pub assigned_by : List ℕ → List (List ℕ × List ℕ)
assigned_by word = assigned_at word (assignment_at word)

-- the variables that words assign, the last first
abbrev pub assigned : List (List ℕ) → List (List ℕ × List ℕ)
assigned [] = []
assigned (word ∷ words) = assigned words ++ assigned_by word

-- words, divided into those before one, that one and those after it
pub record IsDivided (all : List (List ℕ)) (at : ℕ) (divided : Divided) : Type 0 where
  pub front : words_of divided.front.items ≡ take at all
  pub program : divided.program.items ≡ slice_index_or all at []
  pub words : words_of divided.words.items ≡ drop (at + 1) all

-- the program is the first word that may be one, the words are those after it, and the variables those that words before it
-- assign, the last first, and then those of the conditions: of several values of a variable the first counts
pub record IsCase (launchers all : List (List ℕ)) (named : Option Compiler) (conditions : Conditions) (case : Case) : Type 0 where
  pub at : ℕ
  pub program_at : program_behind launchers all ≡ Some at
  pub program : case.program.items ≡ slice_index_or all at []
  pub words : words_of case.words.items ≡ drop (at + 1) all
  pub compiler : compiler_for named case.program.items ≡ Some case.compiler
  pub directory : case.cwd ≡ conditions.cwd
  pub variables : pairs_of case.env_vars.items ≡ assigned (take at all) ++ pairs_of conditions.env_vars.items
  pub multiarch : case.multiarch ≡ conditions.multiarch
  pub settings : case.settings ≡ conditions.settings

-- no word may be a program, or no compiler is named and the program's name names none
abbrev pub IsNoCase : (launchers all : List (List ℕ)) → Option Compiler → CaseError → Type 0
IsNoCase launchers all named errors.NoProgram = program_behind launchers all ≡ None
IsNoCase launchers all named (errors.UnknownCompiler word quoted) = (at : ℕ) × (word ≡ at + 1) × (program_behind launchers all ≡ Some at) × (compiler_for named (slice_index_or all at []) ≡ None)
