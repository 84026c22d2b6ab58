-- What the methods of a compiler give, by its own definitions.
use Rattle.std.specs.Prelude.{◌≡◌, ℕ, List, Option, Some, IfSome, Result, Ok, Err}
use Rattle.scl_values.specs.Words.{words_of}
use Rattle.scl_text.specs.Commands.{Builds}
use Rattle.scl_text.specs.Records.{Parsed, Verdict}
use Rattle.scl_text.specs.declared.records.SingleCompileCommand.{SingleCompileCommand}
use Rattle.scl_text.specs.declared.records.Cacheable.{Cacheable}

-- the command has exactly these words, this program, environment and directory; and whether its result can be cached is this
pub record IsBuiltCommand (command : SingleCompileCommand) (cacheable : Cacheable) (words : Option (List (List ℕ))) (executable : List ℕ) (env_vars : List (List ℕ × List ℕ)) (cwd : List ℕ) (kept : Cacheable) : Type 0 where
  pub words_are : words ≡ Some (words_of command.arguments.items)
  pub builds : Builds command executable (words_of command.arguments.items) env_vars cwd
  pub kept_is : cacheable ≡ kept

-- if the outcome is a record that has a command, record and command satisfy the promise
abbrev pub IfCommand : (Parsed → Option (List (List ℕ))) → (Parsed → List (List ℕ) → Type 0) → Result Parsed Verdict → Type 0
IfCommand command promise (Ok p) = IfSome (command p) (promise p)
IfCommand command promise (Err verdict) = Unit {0}
