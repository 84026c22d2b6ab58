-- What is reported of Diab's and TaskingVX's command lines.
use Rattle.std.specs.Prelude.{ℕ, Bool, false, List, [], Option, unwrap_or}
use Rattle.scl_catalogue.specs.Found.{LineSeen, OptionSeen}
use Rattle.scl_catalogue.specs.declared.case.Compiler.{Compiler}
use Rattle.scl_catalogue.specs.declared.case.Compiler.TheVariants as compilers
use Rattle.scl_catalogue.specs.declared.case.Version.{Version}
use Rattle.scl_catalogue.specs.declared.line.Facts.{Facts}
use Rattle.scl_files.specs.Paths.{extension}
use Rattle.scl_small.specs.DiabReading as diab
use Rattle.scl_small.specs.Places.{goes_to}
use Rattle.scl_small.specs.Reads.{SmallRead}
use Rattle.scl_small.specs.TaskingReading as tasking
use Rattle.scl_small.specs.declared.diab.data.Kind as diab_data
use Rattle.scl_small.specs.declared.place.Place.TheVariants as places
use Rattle.scl_small.specs.declared.tasking_vx.data.Kind as tasking_data
use Rattle.scl_text.specs.Commands.{object_of}
use Rattle.scl_text.specs.Languages.{needs_c_preprocessing}
use Rattle.scl_text.specs.Records.{Parsed}
use Rattle.scl_values.specs.Seen.{Seen}
use Rattle.scl_hazards.specs.Hazards.{Known}
use Rattle.scl_kinds.specs.KindNames.{diab_kind_text, tasking_kind_text}
use Rattle.scl_hazards.specs.Languages.{language_name}
use Rattle.scl_hazards.specs.Options.{is_hidden, options_seen}
use Rattle.scl_hazards.specs.Told.{Told, of_record, told_of}

-- what is reported of a line with this record
abbrev pub small_facts : Parsed → Facts
small_facts p = record {
  is_plusplus = false;
  is_apple = false;
  is_preprocessed = needs_c_preprocessing p.language;
  is_other_language = false;
  is_split_otherwise = false;
  is_environment_split_otherwise = false;
  is_input_hidden = is_hidden p.input;
  is_object_hidden = is_hidden (unwrap_or (object_of p) []);
  has_other_target = false;
  is_object_renamed = false;
  has_precompiled_header = false;
}

-- the command line with its record, with these options
abbrev pub line_told : {K : Type 0} → Compiler → Option Version → SmallRead K → Parsed → List OptionSeen → LineSeen
line_told compiler version r p options = record {
  compiler = compiler;
  version = version;
  facts = small_facts p;
  options = options;
  inner = [];
  words = r.outer.words;
  files = r.outer.texts;
  environment = [];
  language = language_name p.language;
  input = p.input;
  extension = extension p.input;
  object = unwrap_or (object_of p) [];
}

module _ {K : Type 0} (text : K → List ℕ) (common : Seen K → Bool) where
  abbrev pub small_options : SmallRead K → List OptionSeen
  small_options r = options_seen text common r.outer.words r.outer.line.options

  abbrev pub small_line : Compiler → Known → SmallRead K → Parsed → LineSeen
  small_line compiler known r p = line_told compiler known.version r p (small_options r)

  -- what is reported of a reading, if it has a record
  unfoldable pub small_told : Compiler → Known → SmallRead K → Told
  small_told compiler known r = of_record (λ p. told_of known (small_line compiler known r p)) r.outcome

abbrev pub diab_options : SmallRead diab_data.Kind → List OptionSeen
diab_options = small_options diab_kind_text (goes_to diab.place places.Common)

abbrev pub tasking_options : SmallRead tasking_data.Kind → List OptionSeen
tasking_options = small_options tasking_kind_text (goes_to tasking.place places.Common)

abbrev pub diab_told : Known → SmallRead diab_data.Kind → Told
diab_told = small_told diab_kind_text (goes_to diab.place places.Common) compilers.Diab

abbrev pub tasking_told : Known → SmallRead tasking_data.Kind → Told
tasking_told = small_told tasking_kind_text (goes_to tasking.place places.Common) compilers.Tasking
