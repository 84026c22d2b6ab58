-- What an answer that the code gives says.
use Rattle.std.specs.Prelude.{◌≡◌, ℕ, List, Option, None, Some, Result, Ok, string_bytes}
use Rattle.std.specs.Option.{option_map}
use Rattle.scl_values.specs.Words.{words_of}
use Rattle.scl_files.specs.Views.{Viewed}
use Rattle.scl_text.specs.Commands.{Builds}
use Rattle.scl_text.specs.Records.{Parsed, Verdict, parsed_of}
use Rattle.scl_text.specs.declared.records.CompilerArguments.{CompilerArguments}
use Rattle.scl_text.specs.declared.records.CompilerArguments.TheVariants as outcomes
use Rattle.scl_reader.specs.declared.compilation.Compilation.{Compilation}
use Rattle.scl_reader.specs.Answers.{Answer, compiled, cannot_cache, not_compilation, answer_from}
use Rattle.scl_reader.specs.CommandLines.{Given}
use Rattle.scl_reader.specs.Definitions.{Definitions}

-- the answer
abbrev pub answer_of : CompilerArguments Compilation → Answer
answer_of (outcomes.Ok compilation) = compiled (words_of compilation.command.arguments.items) compilation.cacheable
answer_of (outcomes.CannotCache reason text) = cannot_cache reason.now (option_map string_bytes text)
answer_of outcomes.NotCompilation = not_compilation

-- where there is a command, what was read is this reading, and the command has this program, environment and directory
abbrev pub HasParts : Result Parsed Verdict → List ℕ → List (List ℕ × List ℕ) → List ℕ → CompilerArguments Compilation → Type 0
HasParts reading executable env_vars cwd (outcomes.Ok compilation) =
    (reading ≡ Ok (parsed_of compilation.parsed)) × Builds compilation.command executable (words_of compilation.command.arguments.items) env_vars cwd
HasParts reading executable env_vars cwd (outcomes.CannotCache reason text) = Unit {0}
HasParts reading executable env_vars cwd outcomes.NotCompilation = Unit {0}

-- where there is a command, what was read and its words keep the promise
abbrev pub IfCompiled : (Parsed → List (List ℕ) → Type 0) → CompilerArguments Compilation → Type 0
IfCompiled promise (outcomes.Ok compilation) = promise (parsed_of compilation.parsed) (words_of compilation.command.arguments.items)
IfCompiled promise (outcomes.CannotCache reason text) = Unit {0}
IfCompiled promise outcomes.NotCompilation = Unit {0}

-- the record that is kept, where there is a command
abbrev pub record_given : CompilerArguments Compilation → Option Parsed
record_given (outcomes.Ok compilation) = Some (parsed_of compilation.parsed)
record_given (outcomes.CannotCache reason text) = None
record_given outcomes.NotCompilation = None

-- ---- by definitions

-- it is the answer that these definitions give to a command line with this program
pub record IsAnswerBy (definitions : Definitions) (executable : List ℕ) (line : Given) (answer : CompilerArguments Compilation) : Type 0 where
  pub answer_is : answer_of answer ≡ answer_from definitions.command (definitions.cacheable line) (definitions.reading line)
  pub has_parts : HasParts (definitions.reading line) executable (definitions.environment line.environment) line.directory answer
  pub is_read_again : IfCompiled (definitions.is_read_again line) answer

-- it is the answer that these definitions give to each command line with this outcome
abbrev pub AnswersReading : Definitions → List ℕ → Result Parsed Verdict → List ℕ → List (List ℕ × List ℕ) → Viewed → CompilerArguments Compilation → Type 0
AnswersReading definitions executable outcome cwd env_vars view answer =
    (words : List (List ℕ)) → let line : Given = record { words = words; directory = cwd; environment = env_vars; view = view } in
    definitions.reading line ≡ outcome → IsAnswerBy definitions executable line answer
