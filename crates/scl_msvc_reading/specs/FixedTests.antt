-- The tests after the verdicts of the options, in order.
use Rattle.std.specs.Prelude.{ℕ, Bool, true, false, not, ◌&&◌, ◌||◌, List, [], ◌∷◌, Option, None, Some, Result, Ok, Err, codes, nat_eq, is_some, if◌then◌else◌, ok_or}
use Rattle.std.specs.List.{ends_with}
use Rattle.std.specs.Option.{option_map, option_or}
use Rattle.std.specs.Bool.{then_some}
use Rattle.scl_args.specs.Options.{last_flag, last_text, texts, unless, ◌>>=◌}
use Rattle.scl_values.specs.Seen.{Seen}
use Rattle.scl_files.specs.Characters.{slash, backslash}
use Rattle.scl_text.specs.declared.language.Language.{Language}
use Rattle.scl_text.specs.declared.language.Language.TheVariants as languages
use Rattle.scl_text.specs.Languages.{language_of_file_name}
use Rattle.scl_files.specs.Paths.{join, file_name, extension, with_extension}
use Rattle.scl_text.specs.Reasons.{unknown_source_language, invalid_input_file}
use Rattle.scl_text.specs.Records.{Verdict, because, NotCompilation}
use Rattle.scl_text.specs.Refusals.{the_input}
use Rattle.scl_msvc_reading.specs.declared.msvc.data.Kind.{Kind}
use Rattle.scl_msvc_reading.specs.declared.msvc.data.Kind.TheVariants as kind
use Rattle.scl_msvc_reading.specs.Kinds.{of, is_input, any, explicit_language, language_inputs}

-- what the tests find
pub record Found : Type 0 where
  pub compile_flag : List ℕ
  pub input : List ℕ
  pub language : Language
  pub object : List ℕ
  pub program_database : Option (List ℕ)

-- ---- modules

abbrev pub differ : Bool → Bool → Bool
differ true other = not other
differ false other = other

-- a line has an output path for a module if, and only if, it compiles one; then no flag gives the input another language
abbrev pub module_verdict : (is_compiled is_named has_language : Bool) → Option Verdict
module_verdict is_compiled is_named has_language =
    option_or (then_some (differ is_compiled is_named) (because (codes "-x c++-module without -fmodule-output= or vice versa")))
    (then_some (is_compiled && has_language) (because (codes "-x c++-module with /Tc or /Tp")))

-- several inputs are refused; else this refusal counts, if there is one; else there is the only input or none
abbrev pub input_unless : Option Verdict → List (List ℕ) → Result (List ℕ) Verdict
input_unless said (input ∷ (other ∷ inputs)) = the_input (input ∷ (other ∷ inputs))
input_unless said inputs = unless said (the_input inputs)

-- that of a module, else what a flag says, else that of the file's name
abbrev pub language_of : Bool → Option Language → List ℕ → Option Language
language_of true explicit input = Some languages.CxxModule
language_of false (Some language) input = Some language
language_of false None input = language_of_file_name input

-- ---- outputs

-- the path ends in a slash or a backslash
abbrev pub names_folder : List ℕ → Bool
names_folder path = ends_with nat_eq path (slash ∷ []) || ends_with nat_eq path (backslash ∷ [])

-- the path, with this extension if it has none
abbrev pub with_default_extension : List ℕ → List ℕ → List ℕ
with_default_extension path default = if is_some (extension path) then path else with_extension path default

-- the path that is requested; or the input's file name in that folder; else the same beside the input
abbrev pub object_path : Option (List ℕ) → List ℕ → Option (List ℕ)
object_path None input = Some (with_extension input (codes "obj"))
object_path (Some path) input =
    if names_folder path then option_map (λ name. with_extension (join path name) (codes "obj")) (file_name input)
    else Some (with_default_extension path (codes "obj"))

abbrev pub shared_database : Verdict
shared_database = because (codes "shared pdb")

-- debug information goes to a separate file, which the line must have; clang-cl puts it into the object
abbrev pub program_database : Bool → Option (List ℕ) → Result (Option (List ℕ)) Verdict
program_database false path = Ok None
program_database true None = Err shared_database
program_database true (Some path) = if names_folder path then Err shared_database else Ok (Some (with_default_extension path (codes "pdb")))

-- ---- the tests

abbrev pub found : Bool → List (Seen Kind) → Result Found Verdict
found is_clang os = do
  flag ← ok_or (last_flag (of (kind.DoCompilation ∷ [])) os) NotCompilation
  input ← input_unless (module_verdict (any (kind.ClangLanguage ∷ []) os) (any (kind.ClangModuleOutput ∷ []) os) (any language_inputs os)) (texts is_input os)
  language ← ok_or (language_of (any (kind.ClangLanguage ∷ []) os) (explicit_language os) input) unknown_source_language
  object ← ok_or (object_path (last_text (of (kind.Output ∷ [])) os) input) invalid_input_file
  database ← program_database (not is_clang && any (kind.DebugInfo ∷ []) os) (last_text (of (kind.ProgramDatabase ∷ [])) os)
  Ok (record { compile_flag = flag; input = input; language = language; object = object; program_database = database })
