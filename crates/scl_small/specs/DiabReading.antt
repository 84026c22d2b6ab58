-- The outcome of a command line, for Diab.
use Rattle.std.specs.Prelude.{ℕ, List, Option, Some, Result, if◌then◌else◌}
use Rattle.scl_values.specs.Row.{Row}
use Rattle.scl_values.specs.Seen.{Seen}
use Rattle.scl_args.specs.Options.{names_file}
use Rattle.scl_text.specs.Reasons.{unexpanded_file}
use Rattle.scl_text.specs.Records.{Parsed, Verdict}
use Rattle.scl_files.specs.Expand.{expand}
use Rattle.scl_files.specs.Views.{File}
use Rattle.scl_files.specs.declared.expand.ExpansionKind.TheVariants as expansions
use Rattle.scl_small.specs.Places.{refused_at}
use Rattle.scl_small.specs.Readings.{tested_by, reads}
use Rattle.scl_small.specs.declared.place.Place.{Place}
use Rattle.scl_small.specs.declared.place.Place.TheVariants as places
use Rattle.scl_small.specs.declared.diab.data.Kind.{Kind}
use Rattle.scl_small.specs.declared.diab.data.Kind.TheVariants as kinds

-- where the options of a kind go
abbrev pub place : Kind → Place
place kinds.TooHardFlag = places.Refused
place kinds.TooHard = places.Refused
place kinds.DoCompilation = places.CompileFlag
place kinds.Output = places.Output
place kinds.PassThrough = places.Common
place kinds.PreprocessorArgument = places.Preprocessor
place kinds.PreprocessorArgumentPath = places.Preprocessor
place kinds.DepArgumentFlag = places.Dependency
place kinds.DepArgument = places.Dependency
place kinds.DepArgumentPath = places.Dependency

-- the verdict of one option: a value that names a file is refused, then the kinds that are too hard
abbrev pub verdict : Seen Kind → Option Verdict
verdict o = if names_file o then Some unexpanded_file else refused_at place o

-- the fixed tests, and the record; its flag is the one that requested the compilation
abbrev pub tested : List (Seen Kind) → Result Parsed Verdict
tested = tested_by place (λ flag. flag)

-- the outcome of the words; `own` gives a word's owner
abbrev pub reading : (List ℕ → Option (Row Kind)) → List (List ℕ) → Result Parsed Verdict
reading = reads verdict tested

-- the same for words with their response files expanded from the directory
abbrev pub expanded_reading : (List ℕ → Option (Row Kind)) → List ℕ → List File → List (List ℕ) → Result Parsed Verdict
expanded_reading own directory files words = reading own (expand expansions.Diab directory files words)
