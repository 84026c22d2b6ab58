-- Which compiler a program is by its name, and which word of a command line is the program.
use Rattle.std.specs.Prelude.{ℕ, List, [], ◌∷◌, codes, length, get_or, nat_lt, Option, None, Some, Result, Ok, Err, if◌then◌else◌}
use Rattle.std.specs.Option.{option_map}
use Rattle.scl_cl.specs.Requests.{naming, request_from}
use Rattle.scl_describe.specs.Descriptions.{version_entry}
use Rattle.scl_describe.specs.OptionLines.{index_entry}
use Rattle.scl_description.specs.Rows.{Entry, entries_text, maybe_entry}
use Rattle.scl_names.specs.Launchers.{program_at}
use Rattle.scl_names.specs.Names.{compiler_of}
use Rattle.scl_reader.specs.CommandLines.{Request}
use Rattle.scl_reader.specs.Compilers.{name_of}
use Rattle.scl_reader.specs.declared.compiler.Compiler.{Compiler}
use Rattle.scl_reader.specs.declared.compiler.Compiler.TheVariants.{Gcc}

-- the compiler that the word at an index names
abbrev pub compiler_at : List (List ℕ) → Option ℕ → Option Compiler
compiler_at words None = None
compiler_at words (Some at) = if nat_lt at (length words) then compiler_of (get_or words at []) else None

abbrev pub compiler_entry : Option Compiler → Entry
compiler_entry compiler = maybe_entry (codes "compiler") (option_map name_of compiler)

-- the index of the program among all words, launchers passed over, and the compiler that it is by its name
abbrev pub name_entries : List (List ℕ) → List Entry
name_entries words = index_entry (codes "program") (program_at words) ∷ compiler_entry (compiler_at words (program_at words)) ∷ version_entry ∷ []

abbrev pub named_by : Result Request ℕ → Result (List ℕ) ℕ
named_by (Ok request) = Ok (entries_text (name_entries request.words))
named_by (Err number) = Err number

-- what is answered to the lines after the first: a compiler is named before them, no matter which, since only words are looked at
abbrev pub named : List (List ℕ) → Result (List ℕ) ℕ
named lines = named_by (request_from 2 (naming (Some Gcc)) lines)
