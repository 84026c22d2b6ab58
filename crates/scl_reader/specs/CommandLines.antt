-- A command line, and the compiler that it is given to.
use Rattle.std.specs.Prelude.{ℕ, List}
use Rattle.scl_files.specs.Views.{Viewed}
use Rattle.scl_text.specs.Commands.{pairs_of}
use Rattle.scl_values.specs.Words.{words_of}
use Rattle.scl_reader.specs.declared.command_line.CommandLine.{CommandLine}
use Rattle.scl_reader.specs.declared.compiler.Compiler.{Compiler}

-- a command line: its words, and the directory, environment and files by which they are read
pub record Given : Type 0 where
  pub words : List (List ℕ)
  pub directory : List ℕ
  pub environment : List (List ℕ × List ℕ)
  pub view : Viewed

abbrev pub given_by : CommandLine → Given
given_by line = record { words = words_of line.words.now; directory = line.directory.now; environment = pairs_of line.environment.now; view = line.view.now }

-- a request to a compiler
pub record Request : Type 0 where
  pub compiler : Compiler
  pub directory : List ℕ
  pub words : List (List ℕ)
  pub environment : List (List ℕ × List ℕ)
  pub view : Viewed

-- the request to a compiler with these words, in this directory, with this environment and view
abbrev pub asked : Compiler → List (List ℕ) → List ℕ → List (List ℕ × List ℕ) → Viewed → Request
asked compiler words directory environment view =
    record { compiler = compiler; directory = directory; words = words; environment = environment; view = view }

-- the request to a compiler with a command line
abbrev pub asked_for : Compiler → Given → Request
asked_for compiler given = asked compiler given.words given.directory given.environment given.view

-- what a request gives
abbrev pub given_in : Request → Given
given_in r = record { words = r.words; directory = r.directory; environment = r.environment; view = r.view }
