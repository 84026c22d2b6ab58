-- The tests after the verdicts of the options, in order.
use Rattle.std.specs.Prelude.{ℕ, Bool, true, false, ◌&&◌, List, [], ◌∷◌, ◌++◌, Option, None, Some, Result, Ok, codes, unwrap_or, ok_or, if◌then◌else◌}
use Rattle.std.specs.Option.{option_map}
use Rattle.scl_values.specs.Seen.{Seen}
use Rattle.scl_args.specs.Options.{last_flag, last_text, texts, ◌>>=◌}
use Rattle.scl_text.specs.contracts.language.LanguagePartialEq.TheImpl.{ghosts}
use Rattle.scl_text.specs.declared.language.Language.{Language}
use Rattle.scl_text.specs.declared.language.Language.TheVariants as languages
use Rattle.scl_text.specs.Languages.{language_of_file_name, language_of_gcc_text}
use Rattle.scl_files.specs.Paths.{file_name, extension, with_extension, with_file_name}
use Rattle.scl_text.specs.Reasons.{unknown_source_language, invalid_input_file}
use Rattle.scl_text.specs.Records.{Verdict, NotCompilation}
use Rattle.scl_text.specs.Refusals.{the_input}
use Rattle.scl_gnu_reading.specs.declared.gcc.data.Kind.{Kind}
use Rattle.scl_gnu_reading.specs.declared.gcc.data.Kind.TheVariants as kind
use Rattle.scl_gnu_reading.specs.Kinds.{of, is_input, any}

-- what the tests find
pub record Found : Type 0 where
  pub compile_flag : List ℕ
  pub input : List ℕ
  pub language : Language
  pub object : List ℕ
  pub module_path : Option (List ℕ)

-- a C++ driver takes C files as C++
abbrev pub driven : Bool → Language → Language
driven plusplus language = if plusplus && ghosts.eq language languages.C then languages.Cxx else language

-- the language that is requested, else that of the file's name
abbrev pub language_of : Bool → Option (List ℕ) → List ℕ → Option Language
language_of plusplus None input = option_map (driven plusplus) (language_of_file_name input)
language_of plusplus (Some text) input = language_of_gcc_text text

-- the path that is requested, else the input's file name with extension o
abbrev pub object_path : Option (List ℕ) → List ℕ → Option (List ℕ)
object_path None input = option_map (λ name. with_extension name (codes "o")) (file_name input)
object_path (Some path) input = Some path

-- the path with `.pcm` after its extension
abbrev pub with_pcm : List ℕ → List ℕ
with_pcm path = with_extension path (unwrap_or (extension path) [] ++ codes ".pcm")

-- the path of the module: after =, else beside the object, with the input's file name
abbrev pub module_path_of : Option (List ℕ) → List ℕ → List ℕ → Result (Option (List ℕ)) Verdict
module_path_of None input object = Ok None
module_path_of (Some []) input object = ok_or (option_map (λ name. Some (with_pcm (with_file_name object name))) (file_name input)) invalid_input_file
module_path_of (Some (byte ∷ path)) input object = Ok (Some path)

-- there is no module path if the module is the object
abbrev pub module_path_unless : Bool → Option (List ℕ) → List ℕ → List ℕ → Result (Option (List ℕ)) Verdict
module_path_unless true text input object = Ok None
module_path_unless false text input object = module_path_of text input object

abbrev pub found : Bool → List (Seen Kind) → Result Found Verdict
found plusplus os = do
  flag ← ok_or (last_flag (of (kind.DoCompilation ∷ [])) os) NotCompilation
  input ← the_input (texts is_input os)
  language ← ok_or (language_of plusplus (last_text (of (kind.Language ∷ [])) os) input) unknown_source_language
  object ← ok_or (object_path (last_text (of (kind.Output ∷ [])) os) input) invalid_input_file
  module_path ← module_path_unless (any (kind.ModuleOnlyFlag ∷ []) os) (last_text (of (kind.ClangModuleOutput ∷ [])) os) input object
  Ok (record { compile_flag = flag; input = input; language = language; object = object; module_path = module_path })
