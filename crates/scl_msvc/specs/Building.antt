-- The words of a compile command, and whether its result can be cached.
use Rattle.std.specs.Prelude.{ℕ, List, [], ◌∷◌, ◌++◌, Option, None, Some, codes, unwrap_or, if◌then◌else◌}
use Rattle.scl_args.specs.Options.{dash_words}
use Rattle.scl_text.specs.declared.language.Language.{Language}
use Rattle.scl_text.specs.declared.language.Language.TheVariants as languages
use Rattle.scl_text.specs.declared.records.Cacheable.{Cacheable}
use Rattle.scl_text.specs.declared.records.Cacheable.TheVariants as cacheables
use Rattle.scl_text.specs.Commands.{command_by}
use Rattle.scl_text.specs.Outputs.{path_at}
use Rattle.scl_files.specs.Paths.{join}
use Rattle.scl_text.specs.Records.{Parsed}
use Rattle.scl_files.specs.Views.{Viewed, exists}

abbrev pub lists_in_order : (preprocessor dependency unhashed common : List (List ℕ)) → List (List ℕ)
lists_in_order preprocessor dependency unhashed common = preprocessor ++ dependency ++ unhashed ++ common

abbrev pub list_words : Parsed → List (List ℕ)
list_words p = lists_in_order p.preprocessor_args p.dependency_args p.unhashed_args p.common_args

-- the flag that gives an input this language: there is one for C and one for C++
abbrev pub language_flag : Language → Option (List ℕ)
language_flag languages.C = Some (codes "-Tc")
language_flag languages.Cxx = Some (codes "-Tp")
language_flag languages.Assembler = None
language_flag languages.AssemblerToPreprocess = None
language_flag languages.CHeader = None
language_flag languages.GenericHeader = None
language_flag languages.CxxHeader = None
language_flag languages.CxxModule = None
language_flag languages.ObjectiveC = None
language_flag languages.ObjectiveCHeader = None
language_flag languages.ObjectiveCxx = None
language_flag languages.ObjectiveCxxHeader = None
language_flag languages.Cuda = None
language_flag languages.Rust = None
language_flag languages.Hip = None

-- the input, joined to the flag of its language if a flag gave that
abbrev pub input_word : Parsed → List ℕ
input_word p = if p.msvc_explicit_language then unwrap_or (language_flag p.language) [] ++ p.input else p.input

abbrev pub input_words : Parsed → List (List ℕ)
input_words p = dash_words p.double_dash_input ++ input_word p ∷ []

-- with this object
abbrev pub command_words : Parsed → List ℕ → List (List ℕ)
command_words p object = p.compilation_flag ∷ (codes "-Fo" ++ object) ∷ list_words p ++ input_words p

-- the words of the command, if the record has an object
abbrev pub command : Parsed → Option (List (List ℕ))
command p = command_by command_words p

-- the result can't be cached if debug information would be appended to a file
abbrev pub kept_unless : Option (List ℕ) → List ℕ → Viewed → Cacheable
kept_unless None directory view = cacheables.Yes
kept_unless (Some database) directory view = if exists (join directory database) view then cacheables.No else cacheables.Yes

abbrev pub cacheable : Parsed → List ℕ → Viewed → Cacheable
cacheable p directory view = kept_unless (path_at p.outputs (codes "pdb")) directory view
