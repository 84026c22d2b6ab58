-- What is defined of a compiler that is served, by its name.
use Rattle.std.specs.Prelude.{ℕ, Bool, List, Option, None, Result}
use Rattle.scl_text.specs.Records.{Parsed, Verdict}
use Rattle.scl_text.specs.declared.records.Cacheable.{Cacheable}
use Rattle.scl_reader.specs.declared.compiler.Compiler.{Compiler}
use Rattle.scl_reader.specs.CommandLines.{Given, asked_for}
use Rattle.scl_reader.specs.Answers.{reading_by, command_by, environment_by, kept_by, read_again_by, runs_with}

-- what its answers are
pub record Definitions : Type 1 where
  -- what a command line says
  pub reading : Given → Result Parsed Verdict
  -- the words of the command for what was read, if it has an output `obj`
  pub command : Parsed → Option (List (List ℕ))
  -- the environment that the command gets
  pub environment : List (List ℕ × List ℕ) → List (List ℕ × List ℕ)
  -- whether the outcome of what was read may be kept
  pub cacheable : Given → Parsed → Cacheable
  -- what it is for words to be read again as what was read
  pub is_read_again : Given → Parsed → List (List ℕ) → Type 0
  -- the words of the preprocessor's runs for what was read
  pub runs : (may_dist rewrites cache_mode : Bool) → Parsed → List (List (List ℕ))

-- those of a compiler whose version has this text, if it is known
abbrev pub definitions_with : Option (List ℕ) → Compiler → Definitions
definitions_with version compiler = record {
  reading = λ line. reading_by compiler (asked_for compiler line);
  command = command_by compiler;
  environment = environment_by compiler;
  cacheable = λ line. kept_by compiler (asked_for compiler line);
  is_read_again = λ line. read_again_by compiler (asked_for compiler line);
  runs = runs_with version compiler;
}

-- those of a compiler of which no version is known
abbrev pub definitions_of : Compiler → Definitions
definitions_of compiler = definitions_with None compiler
