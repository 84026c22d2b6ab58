-- What a builder makes: a command, word by word.
use Rattle.std.specs.Prelude.{ℕ, ◌≡◌, false, List, map, Option, Vec, codes}
use Rattle.std.specs.Option.{option_map}
use Rattle.std.specs.declared.alloc.Global.{Global}
use Rattle.scl_text.specs.Outputs.{path_at}
use Rattle.scl_text.specs.Records.{Parsed}
use Rattle.scl_values.specs.Words.{words_of}
use Rattle.scl_text.specs.declared.records.SingleCompileCommand.{SingleCompileCommand}

-- the environment's pairs of a key and a value
abbrev pub pairs_of : List (Vec ℕ Global × Vec ℕ Global) → List (List ℕ × List ℕ)
pairs_of pairs = map (λ pair. (pair.0.items, pair.1.items)) pairs

-- the command has this program, these words, this environment and directory, and no job server
pub record Builds (command : SingleCompileCommand) (executable : List ℕ) (words : List (List ℕ)) (env_vars : List (List ℕ × List ℕ)) (cwd : List ℕ) : Type 0 where
  pub executable_is : command.executable.items ≡ executable
  pub arguments_are : words_of command.arguments.items ≡ words
  pub env_vars_are : pairs_of command.env_vars.items ≡ env_vars
  pub cwd_is : command.cwd.items ≡ cwd
  pub is_alone : command.share_jobserver ≡ false

-- the object file of a record, if it has one
abbrev pub object_of : Parsed → Option (List ℕ)
object_of p = path_at p.outputs (codes "obj")

-- the words of a record's command, if it has an object file, from its words for that file
abbrev pub command_by : (Parsed → List ℕ → List (List ℕ)) → Parsed → Option (List (List ℕ))
command_by words p = option_map (words p) (object_of p)
