-- What is reported of gcc's and clang's command lines.
use Rattle.std.specs.Prelude.{Bool, false, cond, List, [], Option, unwrap_or}
use Rattle.scl_catalogue.specs.Found.{LineSeen, OptionSeen}
use Rattle.scl_catalogue.specs.declared.case.Compiler.{Compiler}
use Rattle.scl_catalogue.specs.declared.case.Compiler.TheVariants as compilers
use Rattle.scl_catalogue.specs.declared.case.Version.{Version}
use Rattle.scl_catalogue.specs.declared.line.Facts.{Facts}
use Rattle.scl_driver_texts.specs.Otherwise.{splits_otherwise}
use Rattle.scl_driver_texts.specs.declared.splitter.Splitter.{Splitter}
use Rattle.scl_driver_texts.specs.declared.splitter.Splitter.TheVariants as splitters
use Rattle.scl_files.specs.Paths.{extension}
use Rattle.scl_files.specs.declared.expand.ExpansionKind.TheVariants as expansions
use Rattle.scl_gnu_reading.specs.Places.{goes_to}
use Rattle.scl_gnu_reading.specs.Reads.{GnuRead}
use Rattle.scl_gnu_reading.specs.Recordings.{is_clang}
use Rattle.scl_gnu_reading.specs.declared.gcc.place.Place.TheVariants as places
use Rattle.scl_text.specs.Commands.{object_of}
use Rattle.scl_text.specs.Languages.{needs_c_preprocessing}
use Rattle.scl_text.specs.Records.{Parsed}
use Rattle.scl_text.specs.declared.records.CCompilerKind.{CCompilerKind}
use Rattle.scl_hazards.specs.Hazards.{Known}
use Rattle.scl_kinds.specs.KindNames.{gnu_kind_text}
use Rattle.scl_hazards.specs.Languages.{is_other_language, language_name}
use Rattle.scl_hazards.specs.Options.{is_hidden, options_seen}
use Rattle.scl_hazards.specs.Targets.{has_other_target, is_renamed}
use Rattle.scl_hazards.specs.Told.{Told, of_record, told_of}

-- the compiler that a catalogue calls so
abbrev pub compiler_of : CCompilerKind → Compiler
compiler_of kind = cond (is_clang kind) compilers.Clang compilers.Gcc

-- how it splits texts
abbrev pub splitter_of : CCompilerKind → Splitter
splitter_of kind = cond (is_clang kind) splitters.LlvmGnu splitters.Libiberty

abbrev pub gnu_options : GnuRead → List OptionSeen
gnu_options r = options_seen gnu_kind_text (goes_to places.Common) r.outer.words r.outer.line.options

abbrev pub gnu_inner : GnuRead → List OptionSeen
gnu_inner r = options_seen gnu_kind_text (goes_to places.Common) r.handed r.inner.line.options

-- what is reported of a line with this record and these options
abbrev pub gnu_facts : (is_apple has_precompiled_header : Bool) → GnuRead → Parsed → List OptionSeen → Facts
gnu_facts is_apple has_precompiled_header r p options = record {
  is_plusplus = r.plusplus;
  is_apple = is_apple;
  is_preprocessed = needs_c_preprocessing p.language;
  is_other_language = is_other_language r.plusplus p.input p.language options;
  is_split_otherwise = splits_otherwise (splitter_of r.compiler) expansions.Gnu r.outer.texts;
  is_environment_split_otherwise = false;
  is_input_hidden = is_hidden p.input;
  is_object_hidden = is_hidden (unwrap_or (object_of p) []);
  has_other_target = has_other_target (unwrap_or (object_of p) []) options;
  is_object_renamed = is_renamed p.input (unwrap_or (object_of p) []);
  has_precompiled_header = has_precompiled_header;
}

-- the command line with its record, with these facts and options
abbrev pub line_told : Option Version → GnuRead → Parsed → Facts → (options inner : List OptionSeen) → LineSeen
line_told version r p facts options inner = record {
  compiler = compiler_of r.compiler;
  version = version;
  facts = facts;
  options = options;
  inner = inner;
  words = r.outer.words;
  files = r.outer.texts;
  environment = [];
  language = language_name p.language;
  input = p.input;
  extension = extension p.input;
  object = unwrap_or (object_of p) [];
}

abbrev pub gnu_line : Known → (has_precompiled_header : Bool) → GnuRead → Parsed → LineSeen
gnu_line known has_precompiled_header r p =
    line_told known.version r p (gnu_facts known.is_apple has_precompiled_header r p (gnu_options r)) (gnu_options r) (gnu_inner r)

-- what is reported of a reading, if it has a record
unfoldable pub gnu_told : Known → (has_precompiled_header : Bool) → GnuRead → Told
gnu_told known has_precompiled_header r = of_record (λ p. told_of known (gnu_line known has_precompiled_header r p)) r.outcome
