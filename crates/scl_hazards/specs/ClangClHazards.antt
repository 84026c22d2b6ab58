-- What is reported of cl's and clang-cl's command lines.
use Rattle.std.specs.Prelude.{ℕ, Bool, false, cond, ◌||◌, List, [], ◌++◌, Option, None, Some, unwrap_or}
use Rattle.scl_catalogue.specs.Found.{LineSeen, OptionSeen}
use Rattle.scl_catalogue.specs.declared.case.Compiler.{Compiler}
use Rattle.scl_catalogue.specs.declared.case.Compiler.TheVariants as compilers
use Rattle.scl_catalogue.specs.declared.case.Version.{Version}
use Rattle.scl_catalogue.specs.declared.line.Facts.{Facts}
use Rattle.scl_driver_texts.specs.Otherwise.{is_split_otherwise, splits_otherwise}
use Rattle.scl_driver_texts.specs.declared.splitter.Splitter.TheVariants as splitters
use Rattle.scl_files.specs.Decoding.{utf8_mark}
use Rattle.scl_files.specs.Paths.{extension}
use Rattle.scl_files.specs.declared.expand.ExpansionKind.TheVariants as expansions
use Rattle.scl_gnu_reading.specs.Places as gnu
use Rattle.scl_gnu_reading.specs.declared.gcc.place.Place.TheVariants as gnu_places
use Rattle.scl_msvc.specs.Environment.{back_variable, front_variable, value_of}
use Rattle.scl_msvc_reading.specs.Places.{goes_to}
use Rattle.scl_msvc_reading.specs.Reads.{MsvcRead}
use Rattle.scl_msvc_reading.specs.declared.msvc.place.Place.TheVariants as places
use Rattle.scl_text.specs.Commands.{object_of}
use Rattle.scl_text.specs.Languages.{needs_c_preprocessing}
use Rattle.scl_text.specs.Records.{Parsed}
use Rattle.scl_hazards.specs.Hazards.{Known}
use Rattle.scl_kinds.specs.KindNames.{cl_kind_text, gnu_kind_text}
use Rattle.scl_hazards.specs.Languages.{language_name}
use Rattle.scl_hazards.specs.Options.{is_hidden, options_seen}
use Rattle.scl_hazards.specs.Told.{Told, of_record, told_of}

-- the compiler that a catalogue calls so
abbrev pub cl_compiler : (is_clang : Bool) → Compiler
cl_compiler is_clang = cond is_clang compilers.ClangCl compilers.Cl

-- the value of a variable is split differently: a text of UTF-8, as if a file began with its mark
abbrev pub splits_value : Option (List ℕ) → Bool
splits_value None = false
splits_value (Some value) = is_split_otherwise splitters.LlvmWindows expansions.Msvc (utf8_mark ++ value)

abbrev pub splits_environment : List (List ℕ × List ℕ) → Bool
splits_environment pairs = splits_value (value_of front_variable pairs) || splits_value (value_of back_variable pairs)

abbrev pub cl_options : MsvcRead → List OptionSeen
cl_options r = options_seen cl_kind_text (goes_to places.Common) r.outer.words r.outer.line.options

abbrev pub cl_inner : MsvcRead → List OptionSeen
cl_inner r = options_seen gnu_kind_text (gnu.goes_to gnu_places.Common) r.handed r.inner.line.options

-- what is reported of a line with this record, in an environment of these pairs
abbrev pub cl_facts : List (List ℕ × List ℕ) → MsvcRead → Parsed → Facts
cl_facts pairs r p = record {
  is_plusplus = false;
  is_apple = false;
  is_preprocessed = needs_c_preprocessing p.language;
  is_other_language = false;
  is_split_otherwise = splits_otherwise splitters.LlvmWindows expansions.Msvc r.outer.texts;
  is_environment_split_otherwise = splits_environment pairs;
  is_input_hidden = is_hidden p.input;
  is_object_hidden = is_hidden (unwrap_or (object_of p) []);
  has_other_target = false;
  is_object_renamed = false;
  has_precompiled_header = false;
}

-- the command line with its record, with these facts and options
abbrev pub line_told : Option Version → MsvcRead → Parsed → Facts → (options inner : List OptionSeen) → LineSeen
line_told version r p facts options inner = record {
  compiler = cl_compiler r.is_clang;
  version = version;
  facts = facts;
  options = options;
  inner = inner;
  words = r.outer.words;
  files = r.outer.texts;
  environment = r.environment;
  language = language_name p.language;
  input = p.input;
  extension = extension p.input;
  object = unwrap_or (object_of p) [];
}

-- the command line, in an environment of these pairs
abbrev pub cl_line : Known → List (List ℕ × List ℕ) → MsvcRead → Parsed → LineSeen
cl_line known pairs r p = line_told known.version r p (cl_facts pairs r p) (cl_options r) (cl_inner r)

-- what is reported of a reading, if it has a record
unfoldable pub msvc_told : Known → List (List ℕ × List ℕ) → MsvcRead → Told
msvc_told known pairs r = of_record (λ p. told_of known (cl_line known pairs r p)) r.outcome
